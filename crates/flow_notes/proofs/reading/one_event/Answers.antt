-- Each is what its words are read as.
use Rattle.flow_notes.proofs.NoteLines.{event_one}
use Rattle.flow_notes.proofs.reading.one_event.Goals as goal

pub returns : goal.returns
returns c = event_one
