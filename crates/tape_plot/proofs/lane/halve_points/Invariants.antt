use Rattle.std.specs.Prelude.{[], length, ◌≡◌}
use Rattle.tape_plot.specs.Lanes.{halves}
use Rattle.tape_plot.proofs.lane.halve_points.Given as goal

abbrev pub invariant-loop-point : goal.invariant-loop-point
invariant-loop-point l = record { same : halves l.made.items l.rest ≡ halves [] l.points }

abbrev pub decreases-loop-point : goal.decreases-loop-point
decreases-loop-point l = length l.rest
