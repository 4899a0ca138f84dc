-- The notes that a dispatch appends behind its turn note. Where memory is refused those so far stand.
use Rattle.flow_rules.specs.declared.ids.BufferId.{BufferId}
use Rattle.flow_rules.specs.declared.ids.BufferId.TheVariants as buffer
use Rattle.flow_rules.specs.declared.ids.FlowId.{FlowId}
use Rattle.flow_notes.specs.Note.{IsNote}
use Rattle.flow_notes.specs.declared.notes.Note.{Note}
use Rattle.flow_notes.specs.declared.notes.Note.TheVariants as note
use Rattle.std.specs.List.{AllByRecursion}
use Rattle.std.specs.Prelude.{Bool, List, None, Option, Some, [], if◌then◌else◌, map, ℕ, ◌++◌, ◌∷◌, ◌≡◌}
use Rattle.std.specs.Option.{option_map_or}
use Rattle.tape_laws.specs.Flows.{request, response}
use Rattle.wire_flows.specs.declared.framing.Framed.{Framed}
use Rattle.wire_flows.specs.declared.moving.Moved.{Moved}
use Rattle.wire_flows.specs.declared.starting.Started.{Started}

-- the note has a spelling, and begins no dispatch
abbrev pub IsStep : Note → Type 0
IsStep (note.Turn number event) = ⊥
IsStep n = IsNote [] n

-- these notes stand behind those
pub record Extends (start now : List Note) : Type 0 where
  pub added : List Note
  pub is : now ≡ start ++ added
  pub steps : AllByRecursion IsStep added

-- such notes were appended, also where memory was refused
pub record Appends (before after : List Note) : Type 0 where
  pub goes : (start : List Note) → Extends start before → Extends start after

-- the note of control octets, of a field block's octets: none of no octets
abbrev pub answers_of : ℕ → List ℕ → List Note
answers_of c [] = []
answers_of c (octet ∷ octets) = note.Answer c (octet ∷ octets) ∷ []

abbrev pub heads_of : ℕ → ℕ → List ℕ → List Note
heads_of c s [] = []
heads_of c s (octet ∷ octets) = note.Head c s (octet ∷ octets) ∷ []

-- a pause of each of these flows by the write buffer of a connection
abbrev pub pauses_of : ℕ → List FlowId → List Note
pauses_of c flows = map (λ f. note.Pause f (buffer.Write c)) flows

-- the same, where it rose
abbrev pub risen_of : Bool → ℕ → List FlowId → List Note
risen_of rose c flows = if rose then pauses_of c flows else []

-- a pause of a flow by this buffer, if there is one, and its resume
abbrev pub pause_of : FlowId → Option BufferId → List Note
pause_of f None = []
pause_of f (Some b) = note.Pause f b ∷ []

abbrev pub resume_of : FlowId → Option BufferId → List Note
resume_of f None = []
resume_of f (Some b) = note.Resume f b ∷ []

-- What a move crossed: the buffer that octets came to rose, and the one that they left drained. Of a move that overflowed nobody is
-- told.
abbrev pub crossed_of : FlowId → Moved → List Note
crossed_of f m = pause_of f m.rose ++ (if m.overflow then [] else resume_of f m.drained)

abbrev pub moved_of : FlowId → Moved → List Note
moved_of f m = note.Move f m.place m.n ∷ crossed_of f m

-- the exchange that is still to be doomed since it overflowed, if it did
abbrev pub late_of : FlowId → Moved → Option ℕ
late_of f m = if m.overflow then Some f.exchange else None

-- a flow is told that its send buffer drained, where it did
abbrev pub told_of : Bool → FlowId → List Note
told_of drained f = if drained then note.Resume f (buffer.Send f) ∷ [] else []

-- a DATA frame, by which the write buffer rose, where it did, and the send buffer drained
abbrev pub framed_of : ℕ → FlowId → Framed → List FlowId → List Note
framed_of c f framed flows = note.Frame c f framed.n framed.last ∷ (risen_of framed.rose c flows ++ told_of framed.drained f)

-- the connection that a start note names, 0 for none
abbrev pub conn_number : Option ℕ → ℕ
conn_number to = option_map_or (λ c. c) to 0

-- a flow that begins is held back by the write buffer of the connection that it goes to, where that is above
abbrev pub hold_of : FlowId → Bool → Option ℕ → List Note
hold_of f held None = []
hold_of f held (Some c) = if held then note.Pause f (buffer.Write c) ∷ [] else []

-- an exchange began: its request goes to `to`, if anywhere, and its response to `client`
abbrev pub held_of : Started → ℕ → Option ℕ → List Note
held_of s client to = hold_of (request s.exchange) s.request_held to ++ hold_of (response s.exchange) s.response_held (Some client)
