use Rattle.std.specs.BTreeMap.{get, btree_map_len}
use Rattle.std.specs.Ordering.{nat_cmp}
use Rattle.overload_core.specs.Tied.{Tied}
use Rattle.overload_core.proofs.classes.release.Given as goal

abbrev pub invariant-loop-standing : goal.invariant-loop-standing
invariant-loop-standing g l = Tied (get nat_cmp l.standings) l.lists.lists

abbrev pub decreases-loop-standing : goal.decreases-loop-standing
decreases-loop-standing g l = btree_map_len l.standings
