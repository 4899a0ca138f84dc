use Rattle.number_set.proofs.Entries.{is_gap}
use Rattle.number_set.proofs.map.NumberMap.by_halves.Goals as goal
use Rattle.number_set.specs.NumberMap.{IsGap}
use Rattle.std.proofs.Common.{arith, subst}

pub returns-else-item-number : goal.returns-else-item-number
returns-else-item-number g c =
    let item = c.in-Some.ensures.item in
    subst (λ es. IsGap c.args.number c.count_below-place.result es) c.self.view_is
    (is_gap c.args.number c.count_below-place.result c.in-Some.item.now c.self.inside.items.items (rw (← c.self.view_is) at c.count_below-place.ensures)
    c.self.invariant (omega (arith, item.3.0, c.self.inside.items.ok.0)) item.1 c.if-item-number.false)
