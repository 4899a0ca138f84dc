use Rattle.flow_gate.proofs.Live.{Rises-closed, all-closed, live-closed}
use Rattle.flow_gate.proofs.Places.{line_left}
use Rattle.flow_gate.proofs.Rising.{Rises}
use Rattle.flow_gate.proofs.SideBySide.{empty_row}
use Rattle.flow_gate.proofs.gate.Gate.remove_among.Goals as goal
use Rattle.flow_gate.specs.Line.{live, places_of}
use Rattle.flow_gate.specs.declared.stands.Stand.{Stand}
use Rattle.std.proofs.Common.{Vec, ap, arith, rules, subst, sym, ◌∙◌}
use Rattle.std.proofs.lemmas.List.{length-map, with_items_is}
use Rattle.std.specs.BTreeMap.{is_at}
use Rattle.std.specs.List.{AllByRecursion}
use Rattle.std.specs.List.Sorted.{IsStrictlySortedBy}
use Rattle.std.specs.Map.{remove_entry}
use Rattle.std.specs.Ordering.{nat_cmp}
use Rattle.std.specs.Prelude.{List, cond, length, ℕ, ◌+◌, ◌<◌, ◌≡◌}
use Rattle.std.specs.Vec.{with_items}

-- what was written through the lent slice lies in the line
module _ {Z : Type 0} where
  lies : (line : Vec Stand Z) (lent new : List Stand) → length lent ≡ line.len → places_of new ≡ places_of lent → (with_items line new).items ≡ new
  lies line lent new long places =
      let same : length (places_of new) ≡ length (places_of lent) = ap length places in
      let old : length (places_of lent) ≡ length lent = length-map lent (λ (s : Stand). s.place) in
      let now : length (places_of new) ≡ length new = length-map new (λ (s : Stand). s.place) in
      with_items_is line new (omega (arith, same, old, now, long))

pub invariant_of-self : goal.invariant_of-self
invariant_of-self c =
    let kept = lies c.self.inside.line c.as_mut_slice.result.now c.leave.new.stands c.as_mut_slice.ensures.len c.leave.ensures.places in
    let places : places_of (with_items c.self.inside.line c.leave.new.stands).items ≡ places_of c.self.inside.line.items = ap places_of kept ∙ c.leave.ensures.places ∙ ap places_of c.as_mut_slice.ensures.value in
    let one : length (live c.leave.new.stands) + 1 ≡ length (live c.self.inside.line.items) =
    ap {B = ℕ} (λ b. length (live c.leave.new.stands) + cond b 1 0) (sym c.if-leave.true) ∙ c.leave.ensures.count ∙ ap (λ ss. length (live ss)) c.as_mut_slice.ensures.value in
    let all : length (live c.close_up.new.stands.items) ≡ length (live c.leave.new.stands) =
    ap (λ ss. length (live ss)) c.close_up.ensures ∙ ap length (live-closed _ (with_items c.self.inside.line c.leave.new.stands).items) ∙ ap (λ ss. length (live ss)) kept in
    record {
      rising = subst Rises (sym c.close_up.ensures) (Rises-closed _ _ (subst (IsStrictlySortedBy nat_cmp) (sym places) c.self.invariant.rising));
      below = subst (λ ss. AllByRecursion (λ p. p < c.self.inside.next) (places_of ss)) (sym c.close_up.ensures)
          (all-closed (λ p. p < c.self.inside.next) _ _ (subst (AllByRecursion (λ p. p < c.self.inside.next)) (sym places) c.self.invariant.below));
      forward = c.self.invariant.forward;
      within = c.self.invariant.within;
      counted = omega (arith, one, all, c.self.invariant.counted);
      few = omega (arith, c.self.invariant.few);
      whole = search (rules, empty_row);
    }

pub returns-then-leave : goal.returns-then-leave
returns-then-leave c =
    let kept = lies c.self.inside.line c.as_mut_slice.result.now c.leave.new.stands c.as_mut_slice.ensures.len c.leave.ensures.places in
    let gone : live c.close_up.new.stands.items ≡ remove_entry (is_at (nat_cmp c.args.place)) (live c.self.inside.line.items) =
    ap live c.close_up.ensures ∙ live-closed _ (with_items c.self.inside.line c.leave.new.stands).items ∙ ap live kept
    ∙ c.leave.ensures.flows ∙ ap (λ ss. remove_entry (is_at (nat_cmp c.args.place)) (live ss)) c.as_mut_slice.ensures.value in
    rw (← c.self.view_is) (λ flow at once. line_left c.self.inside.told c.self.inside.drained c.args.place flow c.self.inside.above (live c.self.inside.line.items) _ gone at once)

pub returns-else-leave : goal.returns-else-leave
returns-else-leave c =
    let kept = lies c.self.inside.line c.as_mut_slice.result.now c.leave.new.stands c.as_mut_slice.ensures.len c.leave.ensures.places in
    let gone : live (with_items c.self.inside.line c.leave.new.stands).items ≡ remove_entry (is_at (nat_cmp c.args.place)) (live c.self.inside.line.items) =
    ap live kept ∙ c.leave.ensures.flows ∙ ap (λ ss. remove_entry (is_at (nat_cmp c.args.place)) (live ss)) c.as_mut_slice.ensures.value in
    rw (← c.self.view_is) (λ flow at once. line_left c.self.inside.told c.self.inside.drained c.args.place flow c.self.inside.above (live c.self.inside.line.items) _ gone at once)
