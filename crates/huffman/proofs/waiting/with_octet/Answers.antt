use Rattle.std.proofs.Common.{arith}
use Rattle.huffman.proofs.Words.{shifted}
use Rattle.huffman.proofs.waiting.with_octet.Goals as goal

pub returns : goal.returns
returns c = shifted c.args.have 8 56 c.args.held c.args.octet c.requires (omega arith)
