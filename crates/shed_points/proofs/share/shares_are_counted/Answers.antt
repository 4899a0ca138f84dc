-- Event by event.
use Rattle.shed_points.proofs.Counting.{counted}
use Rattle.shed_points.proofs.share.shares_are_counted.Goals as goal

pub returns : goal.returns
returns c = counted
