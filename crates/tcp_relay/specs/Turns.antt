-- What a dispatch does to a relay and its notes.
use Rattle.flow_notes.specs.Note.{IsNote}
use Rattle.flow_notes.specs.declared.events.Event.{Event}
use Rattle.flow_notes.specs.declared.notes.Note.{Note}
use Rattle.std.specs.List.{AllByRecursion}
use Rattle.std.specs.Prelude.{Bool, Err, List, None, Option, Result, Some, ℕ, ◌++◌, ◌+◌, ◌∷◌, ◌≡◌}
use Rattle.tcp_relay.specs.Board.{IsSeenAs, board_after, board_of, effect_of, held_for}
use Rattle.tcp_relay.specs.Effects.{notes_of}
use Rattle.tcp_relay.specs.Noting.{AppendsSome}
use Rattle.tcp_relay.specs.declared.effect.Effect.{Effect}
use Rattle.tcp_relay.specs.declared.fault.RelayFault.{RelayFault}
use Rattle.tcp_relay.specs.declared.relay.Relay.{Relay}
use Rattle.flow_notes.specs.declared.notes.Note.TheVariants as note
use Rattle.tcp_relay.specs.declared.fault.RelayFault.TheVariants as fault

-- each note has a spelling; the names are those of the clusters
abbrev pub AreSpelled : List (List ℕ) → List Note → Type 0
AreSpelled names notes = AllByRecursion (IsNote names) notes

-- the relay ran out of memory, or not
abbrev pub HasFailed : Relay → Bool → Type 0
HasFailed relay failed = relay.failed ≡ failed

-- the notes of a dispatch: its turn note, and those of what the event does
abbrev pub turn_notes : Relay → Event → List Note
turn_notes relay e = note.Turn (relay.turn + 1) e ∷ notes_of e (effect_of e (board_of relay.table))

-- one turn more: the event has its effect
pub record Steps (old : Relay) (e : Event) (done : Effect) (new : Relay) : Type 0 where
  pub is : done ≡ effect_of e (board_of old.table)
  pub turn : new.turn ≡ old.turn + 1
  pub board : IsSeenAs (board_of new.table) (board_after e (board_of old.table))
  pub well : new.failed ≡ old.failed

-- a whole dispatch, of an event that doesn't read a paused flow
pub record Turns (old : Relay) (before : List Note) (e : Event) (new : Relay) (after : List Note) : Type 0 where
  pub notes : after ≡ before ++ turn_notes old e
  pub reads : held_for e (board_of old.table) ≡ None
  pub turn : new.turn ≡ old.turn + 1
  pub board : IsSeenAs (board_of new.table) (board_after e (board_of old.table))
  pub well : new.failed ≡ old.failed

-- a dispatch that was cut short leaves a front of its notes
pub record CutsTurn (old : Relay) (before : List Note) (e : Event) (after : List Note) : Type 0 where
  pub front : AppendsSome before (turn_notes old e) after

-- An event that reads a paused flow is refused, with what waits, and nothing changes. No other is refused so.
abbrev pub Refuses : {A : Type 0} → Option ℕ → Relay → List Note → Result A RelayFault → Relay → List Note → Type 0
Refuses None old before result new after = (held : ℕ) → result ≡ Err (fault.Paused held) → ⊥
Refuses (Some held) old before result new after = (result ≡ Err (fault.Paused held)) × (new ≡ old) × (after ≡ before)

abbrev pub RefusesPaused : {A : Type 0} → Relay → List Note → Event → Result A RelayFault → Relay → List Note → Type 0
RefusesPaused old before e result new after = Refuses (held_for e (board_of old.table)) old before result new after

-- the same, before there are notes
abbrev pub Withholds : Option ℕ → Relay → Result Effect RelayFault → Relay → Type 0
Withholds None old result new = (held : ℕ) → result ≡ Err (fault.Paused held) → ⊥
Withholds (Some held) old result new = (result ≡ Err (fault.Paused held)) × (new ≡ old)
