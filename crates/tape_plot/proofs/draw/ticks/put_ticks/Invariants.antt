use Rattle.std.specs.Prelude.{◌+◌, ◌-◌}
use Rattle.tape_plot.proofs.draw.ticks.put_ticks.Given as goal

abbrev pub decreases-loop-turn : goal.decreases-loop-turn
decreases-loop-turn l = l.frame.end + 1 - l.turn
