use Rattle.number_set.proofs.Searching.{none_gap}
use Rattle.number_set.proofs.set.place_in.Goals as goal
use Rattle.std.proofs.Common.{arith, sym}

pub place_by-requires-clause-some : goal.place_by-requires-clause-some
place_by-requires-clause-some c = omega (arith, c.in-Some.ensures.item.3.0)

pub place_by-requires-clause-last : goal.place_by-requires-clause-last
place_by-requires-clause-last c = sym (c.in-Some.ensures.item.4 (omega arith) 0)

pub returns-in-None : goal.returns-in-None
returns-in-None c = none_gap c.args.items.now c.args.number (omega (arith, c.in-None.ensures.item.3))
