use Rattle.std.proofs.Common.{◌-◌, arith, ◌∙◌}
use Rattle.std.proofs.lemmas.Option.{slice_get_past}
use Rattle.hpack_codec.proofs.StaticRows.{dynamic_at}
use Rattle.hpack_codec.proofs.table.DynamicTable.entry.Goals as goal

pub returns-in-Some : goal.returns-in-Some
returns-in-Some c =
    let place = c.args.index - 1 - 61 in
    dynamic_at c.args.self.now c.args.index place (omega arith) ∙ c.in-Some.ensures

pub returns-in-None : goal.returns-in-None
returns-in-None c =
    let place = c.args.index - 1 - 61 in
    dynamic_at c.args.self.now c.args.index place (omega arith) ∙ slice_get_past c.args.self.now.lines place c.in-None.ensures
