-- The notes of what an event did, behind its turn note.
use Rattle.flow_rules.specs.declared.ids.FlowId.{FlowId}
use Rattle.flow_notes.specs.declared.events.Event.{Event}
use Rattle.flow_notes.specs.declared.notes.Note.{Note}
use Rattle.std.specs.Prelude.{Bool, List, None, Option, Some, [], if◌then◌else◌, ℕ, ◌++◌, ◌∷◌}
use Rattle.tcp_relay.specs.declared.effect.Effect.{Effect}
use Rattle.tcp_relay.specs.declared.effect.Ended.{Ended}
use Rattle.tcp_relay.specs.declared.effect.Left.{Left}
use Rattle.flow_rules.specs.declared.ids.BufferId.TheVariants as buffer
use Rattle.flow_notes.specs.declared.events.Event.TheVariants as event
use Rattle.flow_rules.specs.declared.causes.Cause.TheVariants as cause
use Rattle.flow_notes.specs.declared.notes.CloseCause.TheVariants as closed
use Rattle.flow_notes.specs.declared.notes.Note.TheVariants as note
use Rattle.tcp_relay.specs.declared.effect.Effect.TheVariants as effect

-- a pause of the flow, where the write buffer that it goes to rose
abbrev pub pause_of : Bool → FlowId → ℕ → List Note
pause_of rose f c = if rose then note.Pause f (buffer.Write c) ∷ [] else []

-- the octets of a read arrive
abbrev pub arrival_of : Event → FlowId → List Note
arrival_of (event.Read c octets) f = note.Arrive f octets ∷ []
arrival_of e f = []

abbrev pub resume_of : Option FlowId → ℕ → List Note
resume_of None c = []
resume_of (Some f) c = note.Resume f (buffer.Write c) ∷ []

abbrev pub drained_of : Bool → ℕ → List Note
drained_of b c = if b then note.Close c 0 closed.Drained ∷ [] else []

abbrev pub ended_of : ℕ → Option Ended → List Note
ended_of c None = []
ended_of c (Some e) =
    note.Doom e.exchange (cause.ConnLost c) ∷ note.Gone e.exchange ∷ drained_of e.closed e.other

abbrev pub leaving_of : Left → List Note
leaving_of l = note.Out l.conn l.n ∷ resume_of l.resumed l.conn ++ drained_of l.closed l.conn

abbrev pub loss_of : ℕ → Option Ended → List Note
loss_of c ended = note.Close c 0 closed.Lost ∷ ended_of c ended

abbrev pub notes_of : Event → Effect → List Note
notes_of e effect.Nothing = []
notes_of e (effect.Paired x c d) = note.Start x c 0 d ∷ []
notes_of e (effect.Refused c) = note.Close c 0 closed.Overload ∷ []
notes_of e (effect.Carried f c rose) = arrival_of e f ++ pause_of rose f c
notes_of e (effect.Left l) = leaving_of l
notes_of e (effect.Lost c ended) = loss_of c ended
