-- Twenty digits are enough for a number.
use Rattle.tape_summary.proofs.line_end.LineEnd.put_number.Goals as goal
use Rattle.std.proofs.Common.{arith, length, ◌^◌, ◌<◌, ◌≤◌, ℕ}
use Rattle.std.proofs.lemmas.Fmt.{length-decimal-le}
use Rattle.std.specs.Fmt.{decimal}

short : (n : ℕ) → n < 2 ^ 64 → length (decimal n) ≤ 20
short n fits = length-decimal-le 20 n (omega arith) (omega arith) fits

pub write_digits-start-requires : goal.write_digits-start-requires
write_digits-start-requires c = let few = short c.args.n c.ranges.n.fits in (omega arith, omega arith)

pub returns-clause-room : goal.returns-clause-room
returns-clause-room c = let few = short c.args.n c.ranges.n.fits in omega arith
