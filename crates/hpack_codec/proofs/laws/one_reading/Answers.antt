use Rattle.hpack_codec.proofs.OneReading.{block_one}
use Rattle.hpack_codec.proofs.laws.one_reading.Goals as goal

pub returns : goal.returns
returns c = block_one
