-- No passage is empty.
use Rattle.flow_notes.proofs.Rows.{all_full}
use Rattle.flow_notes.proofs.notes.Notes.passages.Goals as goal

pub returns-clause-full : goal.returns-clause-full
returns-clause-full c = rw (c.of.ensures, c.as_slice.ensures.value, c.as_slice-2.ensures.value) (all_full c.self.inside.items.items c.self.inside.flows.items c.self.invariant.flows_are c.self.invariant.full)
