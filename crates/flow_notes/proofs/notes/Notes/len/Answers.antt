-- The notes that stand alone, and the flows of the rows.
use Rattle.std.proofs.Common.{ap, arith}
use Rattle.std.specs.Prelude.{List, length}
use Rattle.flow_notes.specs.declared.notes.Note.{Note}
use Rattle.flow_notes.proofs.Rows.{all_length, alone_le}
use Rattle.flow_notes.proofs.notes.Notes.len.Goals as goal

pub overflow_add-result : goal.overflow_add-result
overflow_add-result c =
    let a = alone_le c.self.inside.items.items in
    omega (arith, a, c.self.invariant.alone_are, c.self.inside.items.ok.0, c.self.inside.items.ok.1, c.self.inside.items.small, c.len.ensures, c.self.inside.flows.ok.1, c.self.inside.flows.small)

pub returns : goal.returns
returns c =
    let l = all_length c.self.inside.items.items c.self.inside.flows.items c.self.invariant.flows_are in
    let e = ap (λ (v : List Note). length v) c.self.view_is in
    omega (arith, l, e, c.self.invariant.alone_are, c.len.ensures, c.self.inside.flows.ok.0)
