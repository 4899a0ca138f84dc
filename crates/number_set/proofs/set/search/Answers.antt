use Rattle.number_set.proofs.Searching.{first_found, first_gap, none_gap, searched_place}
use Rattle.number_set.proofs.set.search.Goals as goal
use Rattle.std.proofs.Common.{arith}

pub returns-in_default : goal.returns-in_default
returns-in_default c = none_gap c.args.items.now c.args.number (omega (arith, c.in_default.ensures.item.3))

pub returns-then-number-first : goal.returns-then-number-first
returns-then-number-first c = first_found c.args.items.now c.args.number c.in-Some.first.now (omega (arith, c.in-Some.ensures.item.3.0)) (c.in-Some.ensures.item.4 (omega arith) 0) c.if-number-first.true

pub returns-then-number-first-2 : goal.returns-then-number-first-2
returns-then-number-first-2 c =
    first_gap c.args.items.now c.args.number c.in-Some.first.now c.requires (omega (arith, c.in-Some.ensures.item.3.0)) (c.in-Some.ensures.item.4 (omega arith) 0) c.if-number-first-2.true

pub returns : goal.returns
returns c = searched_place c.args.items.now c.args.number c.binary_search.result c.binary_search.ensures.position c.requires
