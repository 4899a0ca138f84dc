use Rattle.std.proofs.Common.{sym, ap, ◌∙◌, subst}
use Rattle.scaled_timer.specs.Timing.{Timing}
use Rattle.wire_timers.specs.Held.{Key, find_in, Found}
use Rattle.wire_timers.proofs.Holding.{taken-out, held-there, without-it}
use Rattle.wire_timers.proofs.Changing.{held_by}
use Rattle.wire_timers.proofs.tokens.give_back_all.Goals as goal

pub give_back-requires : goal.give_back-requires
give_back-requires c =
    held_by c.in-Some-take.token c.loop-kind.timers
    (held-there (c.in-Some.kind, c.in-Some.id) c.in-Some-take.token (find_in c.loop-kind.tokens) c.loop-kind.timers.armed c.loop-kind.invariant.found (sym c.in-Some-take.ensures.old))

pub loop-kind-preserved-in-Some-take : goal.loop-kind-preserved-in-Some-take
loop-kind-preserved-in-Some-take c =
    let find = find_in c.loop-kind.tokens in
    let new = find_in c.take.new.self in
    let k : Key = (c.in-Some.kind, c.in-Some.id) in
    let p = c.in-Some-take.token in
    let armed = c.loop-kind.timers.armed in
    let h = c.loop-kind.invariant.found in
    let e = sym c.in-Some-take.ensures.old in
    let is = c.give_back.ensures.armed (held-there k p find armed h e) in
    record {
      none_fired = ap (λ (s : Timing). s.fired) is ∙ c.loop-kind.invariant.none_fired;
      found = subst (λ (s : Timing). Found new s.armed) (sym is) (subst (Found new) (sym (without-it k p find armed h e)) (taken-out k find new armed h c.in-Some-take.ensures.new));
    }
