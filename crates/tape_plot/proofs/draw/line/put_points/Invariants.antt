use Rattle.std.specs.Prelude.{length, ◌++◌, ◌≡◌}
use Rattle.tape_plot.specs.Path.{points_text}
use Rattle.tape_plot.proofs.draw.line.put_points.Given as goal

abbrev pub invariant-loop-point : goal.invariant-loop-point
invariant-loop-point l = record { same : l.into ++ points_text l.scene l.rest ≡ l.fn.into ++ points_text l.scene l.points }

abbrev pub decreases-loop-point : goal.decreases-loop-point
decreases-loop-point l = length l.rest
