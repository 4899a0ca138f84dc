-- The note of a line is read, and no other.
use Rattle.flow_notes.proofs.NoteLines.{note_some, note_only, note_none}
use Rattle.flow_notes.proofs.reading.note.read_note.Goals as goal

pub returns-clause-some : goal.returns-clause-some
returns-clause-some c = note_some c.args.names.now c.args.line.now c.tape_line.result c.tape_line.ensures.spelled

pub returns-clause-only : goal.returns-clause-only
returns-clause-only c = note_only c.args.names.now c.known.ensures c.args.line.now c.tape_line.result c.tape_line.ensures.value

pub returns-clause-none : goal.returns-clause-none
returns-clause-none c = note_none c.args.names.now c.known.ensures c.args.line.now c.tape_line.result c.tape_line.ensures.value
