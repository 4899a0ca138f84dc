-- What a plain session's streams and its connection hold, in short.
use Rattle.flow_notes.specs.declared.events.PlainEvent.{PlainEvent}
use Rattle.flow_rules.specs.declared.ids.FlowId.{FlowId}
use Rattle.plain_laws.specs.StepNotes.{begin_notes, body_notes, frame_notes, move_notes}
use Rattle.std.specs.Prelude.{Bool, List, true, ℕ, ◌≡◌}
use Rattle.tape_laws.specs.Dispatches.{has, live}
use Rattle.tape_laws.specs.Ends.{end_framed}
use Rattle.tape_laws.specs.Flows.{request}
use Rattle.tape_laws.specs.History.{History, NoMark, Noted, Step, onto}
use Rattle.tape_laws.specs.Order.{NextUnit, framed_last, next_on}
use Rattle.tape_laws.specs.Pauses.{lows, pending_lows}
use Rattle.tape_laws.specs.Plain.{plain_setup}
use Rattle.tape_laws.specs.Sources.{disabled}
use Rattle.tape_laws.specs.Watermark.{above, drains_at, rises_at}
use Rattle.tape_laws.specs.World.{out, place}
use Rattle.tape_laws.specs.declared.PlainLimits.{PlainLimits}
use Rattle.flow_rules.specs.declared.ids.BufferId.TheVariants as buffer
use Rattle.flow_notes.specs.declared.events.Event.TheVariants as event
use Rattle.flow_notes.specs.declared.notes.Note.TheVariants as note

abbrev pub Past : Type 0
Past = History NoMark

-- the stream is live
abbrev pub Alive : Past → ℕ → Type 0
Alive h x = has (live h) x ≡ true

-- ---- steps
abbrev pub turn_of : ℕ → PlainEvent → Step NoMark
turn_of k e = Noted (note.Turn k (event.Plain e))

-- n octets of the stream move, or are framed with its end or without
abbrev pub move_of : ℕ → ℕ → Step NoMark
move_of x n = Noted (note.Move (request x) 0 n)

abbrev pub frame_of : ℕ → ℕ → Bool → Step NoMark
frame_of x n last = Noted (note.Frame 0 (request x) n last)

-- ---- a stream: its receive buffer, its send buffer, and whether that is above, rises or drains
abbrev pub recv_at : PlainLimits → ℕ → Past → List ℕ
recv_at limits x h = place (plain_setup limits) (request x) 0 h

abbrev pub send_at : PlainLimits → ℕ → Past → List ℕ
send_at limits x h = place (plain_setup limits) (request x) 1 h

abbrev pub send_high : PlainLimits → ℕ → Past → Bool
send_high limits x h = above (plain_setup limits) (buffer.Send (request x)) h

abbrev pub send_rises : PlainLimits → ℕ → Step NoMark → Past → Bool
send_rises limits x step h = rises_at (plain_setup limits) (buffer.Send (request x)) step h

abbrev pub send_drains : PlainLimits → ℕ → Step NoMark → Past → Bool
send_drains limits x step h = drains_at (plain_setup limits) (buffer.Send (request x)) step h

-- who is still to be told that the send buffer drained, how often the stream's flow is to be told of a drain, and how many
-- sources of it are above
abbrev pub lows_of : PlainLimits → ℕ → Past → List FlowId
lows_of limits x h = pending_lows (plain_setup limits) (buffer.Send (request x)) h

abbrev pub lows_at : PlainLimits → ℕ → Past → ℕ
lows_at limits x h = lows (plain_setup limits) (request x) h

abbrev pub disabled_at : PlainLimits → ℕ → Past → ℕ
disabled_at limits x h = disabled (plain_setup limits) (request x) h

-- its end was framed
abbrev pub end_out : PlainLimits → ℕ → Past → Bool
end_out limits x h = end_framed (plain_setup limits) (request x) h

-- ---- the connection: its write buffer, and whether that is above, rises or drains
abbrev pub conn_out : PlainLimits → Past → List ℕ
conn_out limits h = out (plain_setup limits) 0 h

abbrev pub conn_high : PlainLimits → Past → Bool
conn_high limits h = above (plain_setup limits) (buffer.Write 0) h

abbrev pub conn_rises : PlainLimits → Step NoMark → Past → Bool
conn_rises limits step h = rises_at (plain_setup limits) (buffer.Write 0) step h

abbrev pub conn_drains : PlainLimits → Step NoMark → Past → Bool
conn_drains limits step h = drains_at (plain_setup limits) (buffer.Write 0) step h

-- who is still to be told that it drained
abbrev pub conn_lows : PlainLimits → Past → List FlowId
conn_lows limits h = pending_lows (plain_setup limits) (buffer.Write 0) h

-- the unit that it frames next, and the stream of which it framed one last
abbrev pub next_out : PlainLimits → Past → NextUnit
next_out limits h = next_on (plain_setup limits) 0 h

abbrev pub last_out : PlainLimits → Past → ℕ
last_out limits h = framed_last (plain_setup limits) 0 h

-- ---- the past after the notes of a step
abbrev pub past_move : PlainLimits → ℕ → ℕ → Past → Past
past_move limits x n h = onto (move_notes limits x n h) h

abbrev pub past_frame : PlainLimits → ℕ → ℕ → Bool → Past → Past
past_frame limits x n last h = onto (frame_notes limits x n last h) h

abbrev pub past_begin : PlainLimits → ℕ → ℕ → Past → Past
past_begin limits k x h = onto (begin_notes limits k x h) h

abbrev pub past_body : ℕ → ℕ → List ℕ → Past → Past
past_body k x octets h = onto (body_notes k x octets) h
