use Rattle.std.proofs.Common.{arith, ◌≡◌, true, false}
use Rattle.huffman.proofs.Words.{padding_says, padding_test}
use Rattle.huffman.proofs.waiting.is_padding.Goals as goal

pub returns-then-have-ge8 : goal.returns-then-have-ge8
returns-then-have-ge8 c = ((λ (t : false ≡ true). cc), λ pad. absurd (omega (arith, (padding_says c.args.have c.args.held pad).0)))

pub returns : goal.returns
returns c = padding_test c.args.have c.args.held c.if-have-ge8.false
