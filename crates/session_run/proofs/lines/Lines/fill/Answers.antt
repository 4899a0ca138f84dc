-- What was read stands behind what was held.
use Rattle.std.proofs.Common.{◌≡◌, ◌+◌, ◌-◌, [], take, drop, length, ◌∙◌, ap, ℕ, List, arith}
use Rattle.std.proofs.lemmas.List.{with_items_is}
use Rattle.session_run.proofs.Holding.{filled, refilled, keeps_consumes}
use Rattle.session_run.proofs.lines.Lines.fill.Goals as goal

pub returns-in_err-n-clause-fills : goal.returns-in_err-n-clause-fills
returns-in_err-n-clause-fills g c =
    let t = c.to_front.new.self in
    let whole : length c.read_behind.new.into ≡ t.octets.len = omega (arith, c.read_behind.auto.into, c.deref_mut.ensures.len) in
    record {
      got = [];
      consumes = keeps_consumes _ _ c.in_err-n.ensures.err;
      holds = ap (λ (xs : List ℕ). take (t.end - t.start) (drop t.start xs)) (with_items_is t.octets c.read_behind.new.into whole)
          ∙ refilled t.start t.end _ _ _ c.to_front.ensures.front (c.in_err-n.ensures.front ∙ ap (take t.end) c.deref_mut.ensures.value) c.to_front.ensures.same;
    }

pub returns-clause-fills : goal.returns-clause-fills
returns-clause-fills g c =
    let t = c.to_front.new.self in
    let whole : length c.read_behind.new.into ≡ t.octets.len = omega (arith, c.read_behind.auto.into, c.deref_mut.ensures.len) in
    record {
      got = take c.in_ok-n.n (drop t.end c.read_behind.new.into);
      consumes = c.in_ok-n.ensures.gives;
      holds = ap (λ (xs : List ℕ). take (t.end + c.in_ok-n.n - t.start) (drop t.start xs)) (with_items_is t.octets c.read_behind.new.into whole)
          ∙ filled t.start t.end c.in_ok-n.n _ _ _ c.to_front.ensures.front (c.in_ok-n.ensures.front ∙ ap (take t.end) c.deref_mut.ensures.value) c.to_front.ensures.same;
    }
