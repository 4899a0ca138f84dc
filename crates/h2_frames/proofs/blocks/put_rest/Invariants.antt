use Rattle.std.proofs.Common.{length}
use Rattle.h2_frames.specs.Blocks.{continued, pieces, spellings}
use Rattle.h2_frames.proofs.Pieces.{Left}
use Rattle.h2_frames.proofs.blocks.put_rest.Given as goal

-- what was written, and what is left, are the whole
abbrev pub invariant-loop-rest : goal.invariant-loop-rest
invariant-loop-rest l = Left l.stream l.rest l.into l.fn.into (spellings (continued (pieces l.octets) l.stream l.octets))

abbrev pub decreases-loop-rest : goal.decreases-loop-rest
decreases-loop-rest l = length l.rest
