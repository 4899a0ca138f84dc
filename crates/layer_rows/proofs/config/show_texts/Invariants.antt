use Rattle.std.proofs.Common.{length}
use Rattle.layer_rows.proofs.config.show_texts.Given as goal

abbrev pub decreases-loop-rest : goal.decreases-loop-rest
decreases-loop-rest l = length l.rest
