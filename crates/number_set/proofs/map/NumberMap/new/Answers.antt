use Rattle.number_set.proofs.Entries.{sorted_none}
use Rattle.number_set.proofs.map.NumberMap.new.Goals as goal
use Rattle.number_set.specs.NumberMap.{IsSorted}
use Rattle.std.proofs.Common.{subst, sym}

pub invariant_of-result : goal.invariant_of-result
invariant_of-result g c = subst IsSorted (sym c.new.ensures.items) (sorted_none g.row.T.Denot)
