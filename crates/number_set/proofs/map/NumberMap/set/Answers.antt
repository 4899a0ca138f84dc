use Rattle.number_set.proofs.Entries.{not_some, puts_at, set_at, set_gap, sorted_set}
use Rattle.number_set.proofs.map.NumberMap.set.Goals as goal
use Rattle.number_set.specs.NumberMap.{IsAt, Puts}
use Rattle.std.proofs.Common.{ap, refl, subst, ◌∙◌}
use Rattle.std.proofs.Math.ListN.{set}
use Rattle.std.specs.BTreeMap.{is_at}
use Rattle.std.specs.Map.{set_value}
use Rattle.std.specs.Ordering.{nat_cmp}
use Rattle.std.specs.Prelude.{Some}

pub invariant_of-self : goal.invariant_of-self
invariant_of-self g c =
    let at : IsAt c.args.number c.in-Ok.place c.self.inside.items.items = rw (← c.self.view_is) at c.in-Ok.ensures in
    sorted_set c.args.number c.args.value c.self.inside.items.items _ c.self.invariant (set_at c.args.number c.in-Ok.place c.args.value c.self.inside.items.items at)

pub returns-in-Ok-clause-set : goal.returns-in-Ok-clause-set
returns-in-Ok-clause-set g c =
    let at : IsAt c.args.number c.in-Ok.place c.self.inside.items.items = rw (← c.self.view_is) at c.in-Ok.ensures in
    set_at c.args.number c.in-Ok.place c.args.value c.self.inside.items.items at ∙ ap (λ es. set_value (is_at (nat_cmp c.args.number)) es c.args.value) c.self.view_is

pub returns-in-Ok-clause-puts : goal.returns-in-Ok-clause-puts
returns-in-Ok-clause-puts g c = λ some.
    let at : IsAt c.args.number c.in-Ok.place c.self.inside.items.items = rw (← c.self.view_is) at c.in-Ok.ensures in
    subst (λ es. Puts c.args.number (Some c.args.value) es (set c.self.inside.items.items c.in-Ok.place (c.args.number, c.args.value))) c.self.view_is
    (puts_at c.args.number c.in-Ok.place c.args.value c.self.inside.items.items _ at refl)

pub returns-in_default-clause-set : goal.returns-in_default-clause-set
returns-in_default-clause-set g c = set_gap c.args.number c.in_default.field-0 c.args.value c.args.self.now c.in_default.ensures

pub returns-in_default-clause-puts : goal.returns-in_default-clause-puts
returns-in_default-clause-puts g c = λ some. absurd (not_some c.args.number c.in_default.field-0 c.args.self.now c.in_default.ensures some)
