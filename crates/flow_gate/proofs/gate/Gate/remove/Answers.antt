use Rattle.flow_gate.proofs.Live.{Rises-nil}
use Rattle.flow_gate.proofs.Places.{leaves_none, line_left}
use Rattle.flow_gate.proofs.gate.Gate.remove.Goals as goal
use Rattle.flow_gate.specs.Line.{live}
use Rattle.std.proofs.Common.{ap, arith, refl, sym, ◌∙◌}

pub invariant_of-self : goal.invariant_of-self
invariant_of-self c = rw c.clear-then-self-eq1.ensures.items (record {
  rising = Rises-nil;
  below = tt;
  forward = c.self.invariant.forward;
  within = c.self.invariant.within;
  counted = refl;
  few = omega arith;
  whole = λ same. c.clear.ensures.items;
})

pub returns-then-self-eq1 : goal.returns-then-self-eq1
returns-then-self-eq1 c = rw (← c.self.view_is) (λ flow at once. line_left c.self.inside.told c.self.inside.drained c.args.place flow c.self.inside.above (live c.self.inside.line.items) (live c.clear-then-self-eq1.new.self.items)
    (ap live c.clear-then-self-eq1.ensures.items ∙ leaves_none c.args.place flow (live c.self.inside.line.items) (sym c.self.invariant.counted ∙ c.if-self-eq1.true) at) at once)
