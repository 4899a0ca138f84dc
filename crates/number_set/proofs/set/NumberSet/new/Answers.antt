use Rattle.std.proofs.Common.{arith, subst, sym}
use Rattle.std.specs.Prelude.{length, ◌≤◌}
use Rattle.std.specs.Vec.{vec_capacity}
use Rattle.number_set.proofs.Sorted.{rises_none}
use Rattle.number_set.proofs.set.NumberSet.new.Goals as goal
use Rattle.number_set.specs.NumberSet.{Rises}

pub invariant_of-result : goal.invariant_of-result
invariant_of-result c = record {
  order = subst Rises (sym c.new.ensures.items) rises_none;
  room = subst (λ xs. length xs ≤ vec_capacity c.new.result) (sym c.new.ensures.items) (omega arith);
}
