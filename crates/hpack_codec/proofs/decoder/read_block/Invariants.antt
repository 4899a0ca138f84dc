use Rattle.std.proofs.Common.{length}
use Rattle.hpack_codec.specs.Collecting.{HasRead}
use Rattle.hpack_codec.proofs.decoder.read_block.Given as goal

abbrev pub invariant-pieces : goal.invariant-pieces
invariant-pieces l = HasRead l.greatest l.most l.fn.table l.block l.table l.list l.rest

abbrev pub decreases-pieces : goal.decreases-pieces
decreases-pieces l = length l.rest
