use Rattle.flow_gate.proofs.Live.{Rises-nil}
use Rattle.flow_gate.proofs.gate.Gate.renewed.Goals as goal
use Rattle.std.proofs.Common.{arith, refl}

pub invariant_of-result : goal.invariant_of-result
invariant_of-result c = rw c.clear.ensures.items (record {
  rising = Rises-nil;
  below = tt;
  forward = omega arith;
  within = omega arith;
  counted = refl;
  few = omega arith;
  whole = λ same. c.clear-2.ensures.items;
})
