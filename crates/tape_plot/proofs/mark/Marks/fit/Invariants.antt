use Rattle.std.specs.Prelude.{◌-◌}
use Rattle.tape_plot.proofs.mark.Marks.fit.Given as goal

abbrev pub decreases-loop-width : goal.decreases-loop-width
decreases-loop-width l = l.width.turns - l.self.width.turns
