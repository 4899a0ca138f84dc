-- What writing some notes appends: all of them, or a front where memory was refused.
use Rattle.flow_rules.specs.declared.ids.BufferId.{BufferId}
use Rattle.flow_rules.specs.declared.ids.FlowId.{FlowId}
use Rattle.flow_notes.specs.declared.events.PlainEvent.{PlainEvent}
use Rattle.flow_rules.specs.declared.causes.Cause.{Cause}
use Rattle.flow_notes.specs.declared.notes.Note.{Note}
use Rattle.io_ports.specs.declared.octets.NoMemory.{NoMemory}
use Rattle.std.specs.Prelude.{Bool, Err, List, Ok, Result, [], if◌then◌else◌, map, ℕ, ◌++◌, ◌∷◌, ◌≡◌}
use Rattle.tape_laws.specs.Flows.{request}
use Rattle.flow_rules.specs.declared.ids.BufferId.TheVariants as buffer
use Rattle.flow_notes.specs.declared.events.Event.TheVariants as event
use Rattle.flow_notes.specs.declared.notes.Note.TheVariants as note

-- a pause of each flow, where the buffer rose
abbrev pub pauses_of : BufferId → List FlowId → List Note
pauses_of b fs = map (λ f. note.Pause f b) fs

abbrev pub rise_of : Bool → BufferId → List FlowId → List Note
rise_of rose b fs = if rose then pauses_of b fs else []

-- a resume of each flow, where the buffer drained
abbrev pub resumes_of : BufferId → List FlowId → List Note
resumes_of b fs = map (λ f. note.Resume f b) fs

-- the resume of a flow's send buffer, where it drained
abbrev pub low_of : Bool → FlowId → List Note
low_of drained f = if drained then note.Resume f (buffer.Send f) ∷ [] else []

-- a front of the notes was appended
pub record AppendsSome (old ns new : List Note) : Type 0 where
  pub front : List Note
  pub rest : List Note
  pub whole : ns ≡ front ++ rest
  pub is : new ≡ old ++ front

abbrev pub AppendsNotes : List Note → List Note → List Note → Result (Unit {0}) NoMemory → Type 0
AppendsNotes old ns new (Ok u) = new ≡ old ++ ns
AppendsNotes old ns new (Err e) = AppendsSome old ns new

-- the doom of an exchange that was live
abbrev pub doom_of : Bool → ℕ → Cause → List Note
doom_of was_live x why = if was_live then note.Doom x why ∷ [] else []

abbrev pub turn_note : ℕ → PlainEvent → Note
turn_note k e = note.Turn k (event.Plain e)

-- a start, and the pause of a flow that is held back
abbrev pub begin_notes : ℕ → Bool → List Note
begin_notes x held = note.Start x 0 x 0 ∷ (if held then note.Pause (request x) (buffer.Write 0) ∷ [] else [])
