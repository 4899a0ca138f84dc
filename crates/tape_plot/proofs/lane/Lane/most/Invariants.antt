use Rattle.std.specs.Prelude.{take, ◌≡◌}
use Rattle.tape_plot.specs.Lanes.{most_of}
use Rattle.tape_plot.proofs.lane.Lane.most.Given as goal

abbrev pub invariant-loop-point : goal.invariant-loop-point
invariant-loop-point l = record { same : l.most ≡ most_of l.self.base (take l.point-index l.points) }
