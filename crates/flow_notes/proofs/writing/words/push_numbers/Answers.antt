-- One number more.
use Rattle.std.proofs.Common.{rules}
use Rattle.flow_notes.proofs.Lines.{numbers_more}
use Rattle.flow_notes.proofs.writing.words.push_numbers.Goals as goal

pub numbers-preserved : goal.numbers-preserved
numbers-preserved c = numbers_more c.args.into.now c.args.numbers.now c.numbers.n-index c.numbers.into c.push_number.new.into c.numbers-test.true c.numbers.invariant (search rules)
