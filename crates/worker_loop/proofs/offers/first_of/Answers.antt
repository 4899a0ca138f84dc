-- A front of a front.
use Rattle.std.proofs.Common.{arith, sym, ◌∙◌}
use Rattle.std.proofs.lemmas.List.{length-take}
use Rattle.worker_loop.proofs.Offering.{first_front, first_some, least}
use Rattle.worker_loop.proofs.offers.first_of.Goals as goal

pub slice_bounds-result-end : goal.slice_bounds-result-end
slice_bounds-result-end c = sym (length-take c.min.result c.args.front.now ∙ least c.min.result _ (omega (arith, c.min.ensures)))

pub returns-clause-is : goal.returns-clause-is
returns-clause-is c = first_front c.args.front.now c.min.result (omega (arith, c.min.ensures))

pub returns-clause-some : goal.returns-clause-some
returns-clause-some c = λ l. first_some c.args.front.now c.min.result (omega (arith, c.min.ensures)) (omega (arith, c.min.ensures, l))

pub returns-clause-most : goal.returns-clause-most
returns-clause-most c = let n = length-take c.min.result c.args.front.now in omega (arith, c.min.ensures, n)
