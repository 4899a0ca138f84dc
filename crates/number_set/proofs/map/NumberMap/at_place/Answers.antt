use Rattle.number_set.proofs.Entries.{stands}
use Rattle.number_set.proofs.map.NumberMap.at_place.Goals as goal
use Rattle.number_set.specs.NumberMap.{IsAt}
use Rattle.std.proofs.Common.{arith, subst}

pub returns-then-item-number : goal.returns-then-item-number
returns-then-item-number g c =
    let item = c.in-Some.ensures.item in
    subst (λ es. IsAt c.args.number c.args.place es) c.self.view_is
    (stands c.args.number c.args.place c.in-Some.item.now c.self.inside.items.items c.self.invariant (omega (arith, item.3.0, c.self.inside.items.ok.0)) item.1 c.if-item-number.true)
