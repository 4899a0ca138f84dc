use Rattle.flow_gate.proofs.Live.{Rises-push, below-push, live-all, live-push}
use Rattle.flow_gate.proofs.Places.{between-next, next-at_place}
use Rattle.flow_gate.proofs.gate.Gate.add.Goals as goal
use Rattle.flow_gate.specs.Line.{IsRow, between, live}
use Rattle.std.proofs.Common.{ap, arith, subst, ◌∙◌}
use Rattle.std.proofs.lemmas.List.{length_push}
use Rattle.std.specs.Prelude.{Some, length, ◌+◌, ◌<◌, ◌≡◌}

pub invariant_of-self-2 : goal.invariant_of-self-2
invariant_of-self-2 c =
    let longer = live-push c.self.inside.line.items c.push.new.self.items c.self.inside.next c.args.flow c.in_ok-push.ensures.items in
    let more : length (live c.push.new.self.items) ≡ length (live c.self.inside.line.items) + 1 = ap length longer ∙ length_push (live c.self.inside.line.items) (c.self.inside.next, c.args.flow) in
    record {
      rising = rw c.in_ok-push.ensures.items (Rises-push (record { place = c.self.inside.next; flow = Some c.args.flow }) c.self.inside.line.items c.self.invariant.below c.self.invariant.rising);
      below = rw c.in_ok-push.ensures.items (below-push (record { place = c.self.inside.next; flow = Some c.args.flow }) c.self.inside.line.items c.self.invariant.below);
      forward = c.self.invariant.forward;
      within = omega arith;
      counted = omega (arith, more, c.self.invariant.counted);
      few = omega (arith, c.self.invariant.few);
      whole = subst (IsRow c.add_last.new.row.items) c.as_slice.ensures.value
          (c.add_last.ensures c.self.inside.next c.self.inside.line.items c.self.invariant.whole (c.as_slice.ensures.value ∙ c.in_ok-push.ensures.items));
    }

pub returns-clause-last : goal.returns-clause-last
returns-clause-last c =
    let longer = live-push c.self.inside.line.items c.push.new.self.items c.self.inside.next c.args.flow c.in_ok-push.ensures.items in
    let same : between c.self.inside.told c.self.inside.drained (live c.push.new.self.items) ≡ between c.self.inside.told c.self.inside.drained (live c.self.inside.line.items) =
    ap (between c.self.inside.told c.self.inside.drained) longer ∙ between-next _ _ _ c.args.flow (live c.self.inside.line.items) c.self.invariant.within in
    rw (← c.self.view_is) (λ i. record { above = c.self.inside.above; watchers = longer i; pending = same i })

pub returns-clause-new_place : goal.returns-clause-new_place
returns-clause-new_place c = rw (← c.self.view_is) (next-at_place _ _ (live-all (λ q. q < c.self.inside.next) c.self.inside.line.items c.self.invariant.below))
