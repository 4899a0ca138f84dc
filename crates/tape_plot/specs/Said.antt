-- What the lines of a tape say, the newest first.
use Rattle.flow_notes.specs.Fields.{FitsNote}
use Rattle.flow_notes.specs.Line.{newline}
use Rattle.flow_notes.specs.Name.{AreNames}
use Rattle.flow_notes.specs.Note.{IsNote, note_spelling}
use Rattle.flow_notes.specs.declared.notes.Note.{Note}
use Rattle.std.specs.Prelude.{Bool, List, [], false, if◌then◌else◌, true, ℕ, ◌++◌, ◌∷◌}
use Rattle.tape_laws.specs.History.{History, NoMark, Noted}
use Rattle.tape_plot.specs.Lines.{line_text}
use Rattle.tape_plot.specs.declared.report.Line.{Line}
use Rattle.tape_plot.specs.declared.tape.Part.{Part}
use Rattle.tape_plot.specs.declared.report.Line.TheVariants as line
use Rattle.tape_plot.specs.declared.tape.Part.TheVariants as part

-- A line tells a note, spelled with these names of clusters, which a tape doesn't list; or it is one of the summary.
pub data Said : Type 0 where
  Tells : List (List ℕ) → Note → Said
  Sums : Line → Said

abbrev pub said_text : Said → List ℕ
said_text (Tells names n) = note_spelling names n ++ newline
said_text (Sums l) = line_text l

abbrev pub IsSaid : Said → Type 0
IsSaid (Tells names n) = AreNames names × IsNote names n × FitsNote n
IsSaid (Sums l) = Unit {0}

-- the last line of a summary
abbrev pub is_last : Line → Bool
is_last (line.Peak b limit most) = false
is_last (line.Paused f b at until) = false
is_last other = true

-- how far a tape was read, with a line, and by what all its lines say
abbrev pub part_with : Said → Part
part_with (Tells names n) = part.Notes
part_with (Sums l) = if is_last l then part.Ended l else part.Summary

abbrev pub part_of : List Said → Part
part_of [] = part.Notes
part_of (s ∷ past) = part_with s

-- notes stand before the summary, and nothing behind its last line
abbrev pub MayFollow : Said → Part → Type 0
MayFollow s (part.Ended l) = ⊥
MayFollow (Tells names n) part.Summary = ⊥
MayFollow s other = Unit {0}

abbrev pub IsTape : List Said → Type 0
IsTape [] = Unit {0}
IsTape (s ∷ past) = IsSaid s × MayFollow s (part_of past) × IsTape past

abbrev pub tape_text : List Said → List ℕ
tape_text [] = []
tape_text (s ∷ past) = tape_text past ++ said_text s

-- the notes that the lines tell, as a history
abbrev pub told : List Said → History NoMark
told [] = []
told (Tells names n ∷ past) = Noted n ∷ told past
told (Sums l ∷ past) = told past
