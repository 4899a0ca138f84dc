use Rattle.number_set.proofs.Entries.{insert_at, insert_gap, puts_at, puts_gap, sorted_inserted}
use Rattle.number_set.proofs.map.NumberMap.insert.Goals as goal
use Rattle.number_set.specs.NumberMap.{IsAt, IsGap, Puts}
use Rattle.std.proofs.Common.{ap, refl, subst, ◌∙◌}
use Rattle.std.proofs.Math.ListN.{set}
use Rattle.std.specs.BTreeMap.{insert_entry}
use Rattle.std.specs.Ordering.{nat_cmp}
use Rattle.std.specs.Prelude.{Some}

pub invariant_of-self : goal.invariant_of-self
invariant_of-self g c =
    let at : IsAt c.args.number c.in-Ok.place c.self.inside.items.items = rw (← c.self.view_is) at c.in-Ok.ensures in
    sorted_inserted c.args.number c.args.value c.self.inside.items.items _ c.self.invariant (insert_at c.args.number c.in-Ok.place c.args.value c.self.inside.items.items at)

pub invariant_of-self-in-Continue-1 : goal.invariant_of-self-in-Continue-1
invariant_of-self-in-Continue-1 g c =
    let gap : IsGap c.args.number c.in-Err.place c.self.inside.items.items = rw (← c.self.view_is) at c.in-Err.ensures in
    sorted_inserted c.args.number c.args.value c.self.inside.items.items _ c.self.invariant
    (c.in_ok-put_in-in-Err.ensures.ok ∙ insert_gap c.args.number c.in-Err.place c.args.value c.self.inside.items.items gap)

pub returns-in-Ok-clause-ok : goal.returns-in-Ok-clause-ok
returns-in-Ok-clause-ok g c =
    let at : IsAt c.args.number c.in-Ok.place c.self.inside.items.items = rw (← c.self.view_is) at c.in-Ok.ensures in
    insert_at c.args.number c.in-Ok.place c.args.value c.self.inside.items.items at ∙ ap (λ es. insert_entry nat_cmp es c.args.number c.args.value) c.self.view_is

pub returns-in-Ok-clause-puts : goal.returns-in-Ok-clause-puts
returns-in-Ok-clause-puts g c =
    let at : IsAt c.args.number c.in-Ok.place c.self.inside.items.items = rw (← c.self.view_is) at c.in-Ok.ensures in
    subst (λ es. Puts c.args.number (Some c.args.value) es (set c.self.inside.items.items c.in-Ok.place (c.args.number, c.args.value))) c.self.view_is
    (puts_at c.args.number c.in-Ok.place c.args.value c.self.inside.items.items _ at refl)

pub returns-in_ok-put_in-in-Err-clause-ok : goal.returns-in_ok-put_in-in-Err-clause-ok
returns-in_ok-put_in-in-Err-clause-ok g c =
    let gap : IsGap c.args.number c.in-Err.place c.self.inside.items.items = rw (← c.self.view_is) at c.in-Err.ensures in
    c.in_ok-put_in-in-Err.ensures.ok ∙ insert_gap c.args.number c.in-Err.place c.args.value c.self.inside.items.items gap
    ∙ ap (λ es. insert_entry nat_cmp es c.args.number c.args.value) c.self.view_is

pub returns-in_ok-put_in-in-Err-clause-puts : goal.returns-in_ok-put_in-in-Err-clause-puts
returns-in_ok-put_in-in-Err-clause-puts g c =
    let gap : IsGap c.args.number c.in-Err.place c.self.inside.items.items = rw (← c.self.view_is) at c.in-Err.ensures in
    subst (λ es. Puts c.args.number (Some c.args.value) es c.put_in.new.items.items) c.self.view_is
    (puts_gap c.args.number c.in-Err.place c.args.value c.self.inside.items.items c.put_in.new.items.items gap c.in_ok-put_in-in-Err.ensures.ok)

pub put_in-requires : goal.put_in-requires
put_in-requires g c =
    let gap : IsGap c.args.number c.in-Err.place c.self.inside.items.items = rw (← c.self.view_is) at c.in-Err.ensures in
    gap.within
