-- The text of a tape with the lines of what was shed, each at its place.
use Rattle.flow_notes.specs.declared.events.Event.{Event}
use Rattle.proxy_config.specs.declared.overload.ShedRow.{ShedRow}
use Rattle.shed_points.specs.Shedding.{judged}
use Rattle.shed_run.specs.ShedLines.{Placed, lines_at, shed_lines}
use Rattle.std.specs.Prelude.{List, [], ℕ, ◌++◌, ◌∷◌}
use Rattle.tape_laws.specs.Dispatches.{turns}
use Rattle.tape_laws.specs.History.{History, Marked, NoMark, Noted}
use Rattle.tape_laws.specs.Text.{note_line}
use Rattle.flow_notes.specs.declared.notes.Note.TheVariants as note

-- the notes, with the lines behind whole dispatches but not those behind the last
abbrev pub notes_with : List (List ℕ) → List Placed → History NoMark → List ℕ
notes_with names lines [] = []
notes_with names lines (Noted (note.Turn k e) ∷ past) = (notes_with names lines past ++ lines_at (turns past) lines) ++ note_line names (note.Turn k e)
notes_with names lines (Noted n ∷ past) = notes_with names lines past ++ note_line names n
notes_with names lines (Marked m ∷ past) = notes_with names lines past

-- the text of a tape with these lines, each at its place
abbrev pub text_with : List (List ℕ) → List Placed → History NoMark → List ℕ
text_with names lines h = notes_with names lines h ++ lines_at (turns h) lines

-- the lines of what these events come to
abbrev pub lines_of : List ShedRow → List Event → List Placed
lines_of rows es = shed_lines (judged rows es)
