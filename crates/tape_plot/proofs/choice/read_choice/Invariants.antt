use Rattle.std.specs.Prelude.{length}
use Rattle.tape_plot.proofs.choice.read_choice.Given as goal

abbrev pub decreases-loop-word : goal.decreases-loop-word
decreases-loop-word l = length l.rest
