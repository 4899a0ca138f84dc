-- The notes of a passage.
use Rattle.std.specs.Prelude.{List, [], map, ◌∷◌}
use Rattle.flow_notes.specs.declared.notes.Note.{Note}
use Rattle.flow_notes.specs.declared.passages.Passage.{Passage}
use Rattle.flow_notes.specs.declared.notes.Note.TheVariants as note
use Rattle.flow_notes.specs.declared.passages.Passage.TheVariants.{One, Pauses, Resumes}

abbrev pub notes_of_passage : Passage → List Note
notes_of_passage (One n) = n.now ∷ []
notes_of_passage (Pauses flows buffer) = map (λ f. note.Pause f buffer) flows.now
notes_of_passage (Resumes flows buffer) = map (λ f. note.Resume f buffer) flows.now
