use Rattle.std.proofs.Common.{◌<◌}
use Rattle.huffman.specs.Huffman.{bits, octet_bits}
use Rattle.huffman.specs.Reading.{Reads}
use Rattle.huffman.proofs.decoder.read_last.Given as goal

abbrev pub invariant-symbols : goal.invariant-symbols
invariant-symbols l = record {
  few : l.have < 54;
  reads : Reads (octet_bits l.octets) (bits l.have l.held) l.out.items;
}

abbrev pub decreases-symbols : goal.decreases-symbols
decreases-symbols l = l.have
