-- The clock counts dispatches.
use Rattle.flow_notes.specs.declared.notes.Note.{Note}
use Rattle.std.specs.Prelude.{ℕ, ◌+◌, ◌≡◌}
use Rattle.tape_plot.specs.declared.clock.Clock.{Clock}
use Rattle.flow_notes.specs.declared.notes.Note.TheVariants as note

-- how many dispatches begin with a note
abbrev pub turns_of : Note → ℕ
turns_of (note.Turn k e) = 1
turns_of other = 0

-- so many more dispatches began
pub record Ticks (old : Clock) (n : ℕ) (new : Clock) : Type 0 where
  pub turn : new.turn ≡ old.turn + n
  pub first : new.first ≡ old.first
  pub last : new.last ≡ old.last
