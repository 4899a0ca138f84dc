use Rattle.number_set.proofs.Entries.{not_none, puts_none, puts_removed, remove_at, remove_gap, sorted_removed}
use Rattle.number_set.proofs.map.NumberMap.remove.Goals as goal
use Rattle.number_set.specs.NumberMap.{IsAt, Puts}
use Rattle.std.proofs.Common.{ap, subst, ◌∙◌}
use Rattle.std.specs.BTreeMap.{is_at}
use Rattle.std.specs.Map.{remove_entry}
use Rattle.std.specs.Ordering.{nat_cmp}
use Rattle.std.specs.Prelude.{None}

pub take_out-requires : goal.take_out-requires
take_out-requires g c =
    let at : IsAt c.args.number c.in-Ok.place c.self.inside.items.items = rw (← c.self.view_is) at c.in-Ok.ensures in
    at.within

pub invariant_of-self : goal.invariant_of-self
invariant_of-self g c =
    let at : IsAt c.args.number c.in-Ok.place c.self.inside.items.items = rw (← c.self.view_is) at c.in-Ok.ensures in
    sorted_removed c.args.number c.self.inside.items.items c.take_out.new.items.items c.self.invariant (c.take_out.ensures ∙ remove_at c.args.number c.in-Ok.place c.self.inside.items.items at)

pub returns-in-Ok-clause-removed : goal.returns-in-Ok-clause-removed
returns-in-Ok-clause-removed g c =
    let at : IsAt c.args.number c.in-Ok.place c.self.inside.items.items = rw (← c.self.view_is) at c.in-Ok.ensures in
    c.take_out.ensures ∙ remove_at c.args.number c.in-Ok.place c.self.inside.items.items at ∙ ap (remove_entry (is_at (nat_cmp c.args.number))) c.self.view_is

pub returns-in-Ok-clause-puts : goal.returns-in-Ok-clause-puts
returns-in-Ok-clause-puts g c =
    let at : IsAt c.args.number c.in-Ok.place c.self.inside.items.items = rw (← c.self.view_is) at c.in-Ok.ensures in
    subst (λ es. Puts c.args.number None es c.take_out.new.items.items) c.self.view_is
    (puts_removed c.args.number c.in-Ok.place c.self.inside.items.items c.take_out.new.items.items at c.self.invariant c.take_out.ensures)

pub returns-in-Ok-clause-none : goal.returns-in-Ok-clause-none
returns-in-Ok-clause-none g c = λ none. absurd (not_none c.args.number c.in-Ok.place c.args.self.now c.in-Ok.ensures none)

pub returns-in_default-clause-removed : goal.returns-in_default-clause-removed
returns-in_default-clause-removed g c = remove_gap c.args.number c.in_default.field-0 c.args.self.now c.in_default.ensures

pub returns-in_default-clause-puts : goal.returns-in_default-clause-puts
returns-in_default-clause-puts g c = puts_none c.args.number c.in_default.field-0 c.args.self.now c.in_default.ensures
