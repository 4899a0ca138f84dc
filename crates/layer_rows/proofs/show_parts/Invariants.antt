use Rattle.std.proofs.Common.{length}
use Rattle.layer_rows.proofs.show_parts.Given as goal

abbrev pub decreases-loop-rest : goal.decreases-loop-rest
decreases-loop-rest l = length l.rest
