-- A front of a front.
use Rattle.relay_work.proofs.Offered.{first_front, least}
use Rattle.std.proofs.Common.{arith, sym, ◌∙◌}
use Rattle.std.proofs.lemmas.List.{length-take}
use Rattle.relay_work.proofs.turns.first_of.Goals as goal

pub slice_bounds-result-end : goal.slice_bounds-result-end
slice_bounds-result-end c = sym (length-take c.min.result c.args.front.now ∙ least c.min.result _ (omega (arith, c.min.ensures)))

pub returns-clause-front : goal.returns-clause-front
returns-clause-front c = first_front c.args.front.now c.min.result (omega (arith, c.min.ensures)) (λ l. omega (arith, c.min.ensures, l))

pub returns-clause-most : goal.returns-clause-most
returns-clause-most c = let n = length-take c.min.result c.args.front.now in omega (arith, c.min.ensures, n)
