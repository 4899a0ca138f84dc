-- Each is what its words are read as.
use Rattle.flow_notes.proofs.NoteLines.{note_one}
use Rattle.flow_notes.proofs.reading.one_note.Goals as goal

pub returns : goal.returns
returns c = note_one
