use Rattle.std.proofs.Common.{length}
use Rattle.layer_tests.proofs.lists.+before_it.Given as goal

abbrev pub decreases-before_it : goal.decreases-before_it
decreases-before_it g l = length l.before.now
