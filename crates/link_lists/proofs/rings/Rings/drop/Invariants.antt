use Rattle.std.proofs.Common.{length}
use Rattle.link_lists.proofs.rings.Rings.drop.Given as goal

abbrev pub decreases-loop : goal.decreases-loop
decreases-loop g l = length l.self
