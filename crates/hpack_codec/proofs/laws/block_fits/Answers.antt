use Rattle.hpack_codec.proofs.BlockSizes.{block_size}
use Rattle.hpack_codec.proofs.laws.block_fits.Goals as goal

pub returns : goal.returns
returns c = block_size
