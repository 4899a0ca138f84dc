use Rattle.std.proofs.Common.{◌≡◌, ◌+◌, ◌*◌, ◌++◌, drop}
use Rattle.huffman.specs.Huffman.{bits, octet_bits}
use Rattle.huffman.proofs.waiting.with_rest.Given as goal

abbrev pub invariant-loop-octet : goal.invariant-loop-octet
invariant-loop-octet l = record {
  have : l.have ≡ l.fn.waiting.have + 8 * l.octet-index;
  same : bits l.have l.held ++ octet_bits (drop l.octet-index l.rest) ≡ bits l.fn.waiting.have l.fn.waiting.held ++ octet_bits l.fn.waiting.rest.now;
}
