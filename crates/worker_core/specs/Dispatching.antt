-- What a dispatch of wire sessions does.
use Rattle.flow_notes.specs.declared.events.Event.{Event}
use Rattle.flow_notes.specs.declared.events.Event.TheVariants as event
use Rattle.flow_notes.specs.declared.notes.Note.{Note}
use Rattle.flow_notes.specs.declared.notes.Note.TheVariants as note
use Rattle.std.specs.List.{AllByRecursion}
use Rattle.std.specs.Prelude.{List, false, ℕ, ◌++◌, ◌+◌, ◌∷◌, ◌≡◌, ◌⊎◌}
use Rattle.wire_state.specs.Noting.{IsStep}
use Rattle.wire_state.specs.Sound.{IsSound}
use Rattle.wire_state.specs.Worlds.{Follows}
use Rattle.worker_core.specs.declared.wire.WireSession.{WireSession}

-- The notes before stay in front. The first that was appended is the turn note of this event with this number, and each other
-- one has a spelling and is no turn note.
pub record Tells (number : ℕ) (e : Event) (before after : List Note) : Type 0 where
  pub added : List Note
  pub is : after ≡ before ++ note.Turn number e ∷ added
  pub steps : AllByRecursion IsStep added

-- the version that was obeyed last, once the event was carried out
abbrev pub obeyed_after : Event → ℕ → ℕ
obeyed_after (event.Obey version pressures) before = version
obeyed_after e before = before

-- it was carried to its end
pub record Dispatches (old : WireSession) (before : List Note) (e : Event) (new : WireSession) (after : List Note) : Type 0 where
  pub turn : new.turn ≡ old.turn + 1
  pub notes : Tells (old.turn + 1) e before after
  pub sound : IsSound new.core
  pub obeyed : new.obeyed ≡ obeyed_after e old.obeyed
  pub well : new.failed ≡ false
  -- the core stood for the tape so far, and stands for it with these notes
  pub octets : Follows old.core before e new.core after

-- memory was refused in it: nothing was told, or the notes so far
abbrev pub Breaks : WireSession → List Note → Event → List Note → Type 0
Breaks old before e after = (after ≡ before) ⊎ Tells (old.turn + 1) e before after
