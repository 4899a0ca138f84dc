-- The number is in range, or the word is no number's.
use Rattle.std.proofs.Common.{arith, sym, ◌∙◌}
use Rattle.flow_notes.proofs.Numbers.{number_isnt, in_range, too_low, too_high}
use Rattle.flow_notes.proofs.reading.meaning.number_word.Goals as goal

pub returns-in_err-n-clause-value : goal.returns-in_err-n-clause-value
returns-in_err-n-clause-value c = c.from_residual.ensures ∙ sym (number_isnt c.args.low c.args.high c.args.word.now (omega arith) c.in_err-n.ensures.none)

pub returns-then-n-low-clause-value : goal.returns-then-n-low-clause-value
returns-then-n-low-clause-value c = sym (too_low c.args.low c.args.high c.in_ok-n.n c.args.word.now (omega arith) c.in_ok-n.ensures.some (omega arith))

pub returns-then-n-high-clause-value : goal.returns-then-n-high-clause-value
returns-then-n-high-clause-value c = sym (too_high c.args.low c.args.high c.in_ok-n.n c.args.word.now (omega arith) c.in_ok-n.ensures.some (omega arith) (omega arith))

pub returns-clause-value : goal.returns-clause-value
returns-clause-value c = sym (in_range c.args.low c.args.high c.in_ok-n.n c.args.word.now (omega arith) c.in_ok-n.ensures.some (omega arith) (omega arith))
