-- How a tape is read: how far, which lines are its notes, and why reading stops.
use Rattle.flow_notes.specs.Fields.{FitsNote}
use Rattle.flow_notes.specs.Name.{AreNames}
use Rattle.flow_notes.specs.Note.{IsNote, note_spelling}
use Rattle.flow_notes.specs.declared.notes.Note.{Note}
use Rattle.session_run.specs.Held.{held_of}
use Rattle.session_run.specs.declared.status.Status.{Status}
use Rattle.std.specs.Prelude.{List, None, Option, Some, length, ℕ, ◌*◌, ◌+◌, ◌-◌, ◌^◌, ◌≡◌}
use Rattle.tape_plot.specs.declared.tape.Stop.{Stop}
use Rattle.tape_plot.specs.declared.tape.Tape.{Tape}
use Rattle.session_run.specs.declared.status.Status.TheVariants as status
use Rattle.tape_plot.specs.declared.tape.Stop.TheVariants as stop

-- by how much reading may still go on: each step takes a line of what is held, or reads some
abbrev pub to_go : Tape → ℕ
to_go tape = 2 * (2 ^ 64 - tape.read) + (131072 - length (held_of tape.lines))

-- what a line is a note of, where these are the names of the clusters
abbrev pub SpellsNote : List (List ℕ) → List ℕ → Option Note → Type 0
SpellsNote names line (Some n) = (line ≡ note_spelling names n) × IsNote names n × FitsNote n
SpellsNote names line None = (n : Note) → FitsNote n → IsNote names n → note_spelling names n ≡ line → ⊥

-- a tape doesn't tell the names of all clusters, so a line is a note where it is one for some names
pub record ReadsNote (line : List ℕ) (read : Option Note) : Type 0 where
  pub names : List (List ℕ)
  pub are : AreNames names
  pub spells : SpellsNote names line read

-- reading fails by the source only where that failed, and else by memory or by the tape's length
abbrev pub Fails : Type 0 → Status → Type 0
Fails of_source status.ReadFault = of_source
Fails of_source status.Memory = Unit {0}
Fails of_source status.TooLong = Unit {0}
Fails of_source other = ⊥

abbrev pub Caused : Type 0 → Stop → Type 0
Caused of_source stop.End = Unit {0}
Caused of_source (stop.Refused why) = Unit {0}
Caused of_source (stop.Failed how) = Fails of_source how

-- a line stops reading where it is refused, and else by memory or by the tape's length
abbrev pub Refuses : Stop → Type 0
Refuses stop.End = ⊥
Refuses (stop.Refused why) = Unit {0}
Refuses (stop.Failed how) = Fails ⊥ how
