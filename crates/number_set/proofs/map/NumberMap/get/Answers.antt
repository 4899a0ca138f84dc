use Rattle.number_set.proofs.Entries.{lookup_at, lookup_gap}
use Rattle.number_set.proofs.map.NumberMap.get.Goals as goal
use Rattle.number_set.specs.NumberMap.{value_of}
use Rattle.std.proofs.Common.{ap, sym, ◌∙◌}

pub returns-in-Ok : goal.returns-in-Ok
returns-in-Ok g c =
    sym (lookup_at c.args.number c.in-Ok.place c.index.result.now c.self.inside.items.items (rw (← c.self.view_is) at c.in-Ok.ensures) c.index.ensures)
    ∙ ap (value_of c.args.number) c.self.view_is

pub returns-in-Err : goal.returns-in-Err
returns-in-Err g c = sym (lookup_gap c.args.number c.in-Err.field-0 c.args.self.now c.in-Err.ensures)
