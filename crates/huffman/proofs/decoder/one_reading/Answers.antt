use Rattle.huffman.specs.Huffman.{octet_bits}
use Rattle.huffman.proofs.Symbols.{one_reading}
use Rattle.huffman.proofs.decoder.one_reading.Goals as goal

pub returns : goal.returns
returns c = λ octets text other p q. one_reading (octet_bits octets) text other p q
