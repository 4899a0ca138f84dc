-- One note more.
use Rattle.std.proofs.Common.{arith}
use Rattle.flow_notes.proofs.Rows.{alone_le, note_more}
use Rattle.flow_notes.proofs.notes.Notes.push.Goals as goal

pub overflow_add-self : goal.overflow_add-self
overflow_add-self c =
    let a = alone_le c.self.inside.items.items in
    omega (arith, a, c.self.invariant.alone_are, c.self.inside.items.ok.0, c.self.inside.items.ok.1, c.self.inside.items.small)

pub returns-clause-ok : goal.returns-clause-ok
returns-clause-ok c = note_more c.self.inside.items.items c.push.new.self.items c.self.inside.flows.items c.args.note _ c.self.invariant.flows_are c.self.view_is c.in_ok-push.ensures.items
