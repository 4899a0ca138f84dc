use Rattle.std.proofs.Common.{length}
use Rattle.layer_tests.proofs.lists.+behind_it.Given as goal

abbrev pub decreases-behind_it : goal.decreases-behind_it
decreases-behind_it g l = length l.behind.now
