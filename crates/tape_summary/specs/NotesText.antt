-- The text of some notes, a line each.
use Rattle.flow_notes.specs.declared.notes.Note.{Note}
use Rattle.std.specs.Prelude.{List, [], ℕ, ◌++◌, ◌∷◌}
use Rattle.tape_laws.specs.Text.{note_line}

-- with these names of clusters
abbrev pub notes_text : List (List ℕ) → List Note → List ℕ
notes_text names [] = []
notes_text names (n ∷ ns) = note_line names n ++ notes_text names ns
