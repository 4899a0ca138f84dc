use Rattle.std.proofs.Common.{arith, ◌∙◌, ap, ◌++◌}
use Rattle.huffman.specs.Huffman.{bits}
use Rattle.huffman.proofs.Words.{shifted, word_of}
use Rattle.huffman.proofs.waiting.with_word.Goals as goal

pub returns : goal.returns
returns c =
    shifted c.args.have 32 32 c.args.held c.from_be_bytes-word.result c.requires.room (omega arith)
    ∙ ap (λ r. bits c.args.have c.args.held ++ r) (word_of c.args.octets.now c.from_be_bytes-word.result c.requires.four (λ i. omega (arith, c.type_inv.octets i)) c.from_be_bytes-word.ensures)
