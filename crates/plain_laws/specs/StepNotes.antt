-- The notes of each step of a core, in order.
use Rattle.flow_notes.specs.declared.notes.Note.{Note}
use Rattle.std.specs.Prelude.{Bool, List, [], if◌then◌else◌, map, ℕ, ◌++◌, ◌∷◌}
use Rattle.tape_laws.specs.Dispatches.{live}
use Rattle.tape_laws.specs.Flows.{request}
use Rattle.tape_laws.specs.History.{History, NoMark, Noted}
use Rattle.tape_laws.specs.Plain.{plain_setup}
use Rattle.tape_laws.specs.Watermark.{above, drains_at, rises_at}
use Rattle.tape_laws.specs.declared.PlainLimits.{PlainLimits}
use Rattle.flow_rules.specs.declared.ids.BufferId.TheVariants as buffer
use Rattle.flow_notes.specs.declared.events.Event.TheVariants as event
use Rattle.flow_notes.specs.declared.events.PlainEvent.TheVariants as plain
use Rattle.flow_rules.specs.declared.causes.Cause.TheVariants as cause
use Rattle.flow_notes.specs.declared.notes.Note.TheVariants as note

-- a move, and the pause where its send buffer rises
abbrev pub move_notes : PlainLimits → ℕ → ℕ → History NoMark → List Note
move_notes limits x n h =
    note.Move (request x) 0 n
    ∷ (if rises_at (plain_setup limits) (buffer.Send (request x)) (Noted (note.Move (request x) 0 n)) h then note.Pause (request x) (buffer.Send (request x)) ∷ [] else [])

-- the pauses of all live streams, where the write buffer rises
abbrev pub rise_notes : PlainLimits → ℕ → ℕ → Bool → History NoMark → List Note
rise_notes limits x n last h =
    if rises_at (plain_setup limits) (buffer.Write 0) (Noted (note.Frame 0 (request x) n last)) h then map (λ y. note.Pause (request y) (buffer.Write 0)) (live h) else []

-- the resume of the stream, where its send buffer drains
abbrev pub drain_notes : PlainLimits → ℕ → ℕ → Bool → History NoMark → List Note
drain_notes limits x n last h =
    if drains_at (plain_setup limits) (buffer.Send (request x)) (Noted (note.Frame 0 (request x) n last)) h then note.Resume (request x) (buffer.Send (request x)) ∷ [] else []

abbrev pub frame_notes : PlainLimits → ℕ → ℕ → Bool → History NoMark → List Note
frame_notes limits x n last h = note.Frame 0 (request x) n last ∷ (rise_notes limits x n last h ++ drain_notes limits x n last h)

-- a stream begins, and is paused at once where the write buffer is above
abbrev pub begin_notes : PlainLimits → ℕ → ℕ → History NoMark → List Note
begin_notes limits k x h =
    note.Turn k (event.Plain (plain.Begin x))
    ∷ note.Start x 0 x 0
    ∷ (if above (plain_setup limits) (buffer.Write 0) h then note.Pause (request x) (buffer.Write 0) ∷ [] else [])

abbrev pub body_notes : ℕ → ℕ → List ℕ → List Note
body_notes k x octets = note.Turn k (event.Plain (plain.Body x octets)) ∷ note.Arrive (request x) octets ∷ []

-- more came than the receive buffer may hold
abbrev pub over_notes : ℕ → ℕ → List ℕ → List Note
over_notes k x octets = note.Turn k (event.Plain (plain.Body x octets)) ∷ note.Doom x (cause.StreamError 3) ∷ []

abbrev pub cut_notes : ℕ → ℕ → List Note
cut_notes k x = note.Turn k (event.Plain (plain.Cut x)) ∷ note.Doom x (cause.PeerReset 8) ∷ []

-- m octets leave
abbrev pub room_notes : ℕ → ℕ → ℕ → List Note
room_notes k n m = note.Turn k (event.Plain (plain.Room n)) ∷ note.Out 0 m ∷ []
