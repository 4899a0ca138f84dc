use Rattle.std.proofs.Common.{subst, sym, ◌<◌, ◌^◌, ℕ}
use Rattle.huffman.specs.Huffman.{bits}
use Rattle.huffman.proofs.BitLists.{top-lt}
use Rattle.huffman.proofs.Words.{front_high, front_low}
use Rattle.huffman.proofs.lookup.front_of.Goals as goal

pub returns-then-have-ge30 : goal.returns-then-have-ge30
returns-then-have-ge30 c = let e = front_high c.args.have c.args.held c.if-have-ge30.true in let P : ℕ → Type 0 = λ n. n < 2 ^ 30 in record { front = e; fits = subst P (sym e) (top-lt 30 (bits c.args.have c.args.held)) }

pub returns-else-have-ge30 : goal.returns-else-have-ge30
returns-else-have-ge30 c = let e = front_low c.args.have c.args.held c.if-have-ge30.false in let P : ℕ → Type 0 = λ n. n < 2 ^ 30 in record { front = e; fits = subst P (sym e) (top-lt 30 (bits c.args.have c.args.held)) }
