use Rattle.number_set.proofs.Searching.{end_gap, last_found}
use Rattle.number_set.proofs.set.place_by.Goals as goal
use Rattle.std.proofs.Common.{arith, refl, ◌∙◌}

pub returns-then-last-number : goal.returns-then-last-number
returns-then-last-number c = last_found c.args.items.now c.args.number _ refl c.requires.some (c.requires.last ∙ c.if-last-number.true)

pub returns-then-number-last : goal.returns-then-number-last
returns-then-number-last c = end_gap c.args.items.now c.args.number _ c.requires.rises refl c.requires.some (omega (arith, c.requires.last, c.if-number-last.true))
