-- The last point has it.
use Rattle.tape_plot.proofs.Points.{level_last}
use Rattle.tape_plot.proofs.lane.Lane.level.Goals as goal

pub returns-in-Some : goal.returns-in-Some
returns-in-Some c = level_last c.args.self.now.base c.args.self.now.points.items c.in-Some.point (cc)
