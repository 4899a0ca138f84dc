use Rattle.huffman.proofs.Whole.{full}
use Rattle.huffman.proofs.decoder.codes_fill.Goals as goal

pub returns : goal.returns
returns c = full
