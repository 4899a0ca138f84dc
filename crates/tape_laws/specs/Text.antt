-- The text of a tape: a line for each note, the oldest first. Names are those of the clusters.
use Rattle.flow_notes.specs.Line.{newline}
use Rattle.flow_notes.specs.Note.{note_spelling}
use Rattle.flow_notes.specs.declared.notes.Note.{Note}
use Rattle.std.specs.Prelude.{List, [], ℕ, ◌++◌, ◌∷◌}
use Rattle.tape_laws.specs.History.{History, Marked, Noted}

abbrev pub note_line : List (List ℕ) → Note → List ℕ
note_line names n = note_spelling names n ++ newline

abbrev pub tape_text : {Mark : Type 0} → List (List ℕ) → History Mark → List ℕ
tape_text names [] = []
tape_text names (Noted n ∷ past) = tape_text names past ++ note_line names n
tape_text names (Marked m ∷ past) = tape_text names past
