-- A row of resumes more.
use Rattle.std.proofs.Common.{refl, sym}
use Rattle.std.specs.Prelude.{take}
use Rattle.flow_notes.proofs.Rows.{row_pushed, row_unpushed}
use Rattle.flow_notes.proofs.notes.Notes.push_resumes.Goals as goal
use Rattle.flow_notes.specs.declared.passages.Item.TheVariants as item

pub returns-clause-ok : goal.returns-clause-ok
returns-clause-ok c =
    let a = c.in_ok-count.ensures.ok in
    row_pushed c.end_row.result c.self.inside.items.items c.end_row.new.items.items c.self.inside.flows.items c.append_first.new.list.items c.end_row.new.flows.items (take c.args.n c.args.flows) (item.Resumes c.in_ok-count.count c.args.buffer) _ refl c.self.invariant.flows_are c.self.view_is a.0 (sym a.1) c.end_row.ensures.ok

pub returns-clause-err : goal.returns-clause-err
returns-clause-err c =
    let a = c.in_ok-count.ensures.ok in
    row_unpushed c.end_row.result c.self.inside.items.items c.end_row.new.items.items c.self.inside.flows.items c.append_first.new.list.items c.end_row.new.flows.items (take c.args.n c.args.flows) (item.Resumes c.in_ok-count.count c.args.buffer) _ c.self.view_is a.0 (sym a.1) c.end_row.ensures.err
