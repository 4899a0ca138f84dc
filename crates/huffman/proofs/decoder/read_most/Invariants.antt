use Rattle.std.proofs.Common.{◌<◌, ◌+◌, ◌*◌, ◌++◌, length}
use Rattle.huffman.specs.Huffman.{bits, octet_bits}
use Rattle.huffman.specs.Reading.{Reads}
use Rattle.huffman.proofs.decoder.read_most.Given as goal

abbrev pub invariant-symbols : goal.invariant-symbols
invariant-symbols l = record {
  few : l.waiting.have < 62;
  reads : Reads (octet_bits l.octets) (bits l.waiting.have l.waiting.held ++ octet_bits l.waiting.rest.now) l.out.items;
}

abbrev pub decreases-symbols : goal.decreases-symbols
decreases-symbols l = l.waiting.have + 8 * length l.waiting.rest.now
