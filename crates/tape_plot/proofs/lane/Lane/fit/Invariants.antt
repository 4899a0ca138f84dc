use Rattle.std.specs.Prelude.{◌-◌}
use Rattle.tape_plot.specs.Lanes.{Fits, drawn_of}
use Rattle.tape_plot.proofs.lane.Lane.fit.Given as goal

abbrev pub invariant-loop-width : goal.invariant-loop-width
invariant-loop-width l = record { fits : Fits (drawn_of l.fn.self) (drawn_of l.self) }

abbrev pub decreases-loop-width : goal.decreases-loop-width
decreases-loop-width l = l.width.turns - l.self.width.turns
