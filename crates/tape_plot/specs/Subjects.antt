-- What a note is told of, and what it brings into a write buffer.
use Rattle.flow_rules.specs.declared.ids.FlowId.{FlowId}
use Rattle.flow_notes.specs.declared.notes.Note.{Note}
use Rattle.std.specs.Prelude.{Bool, None, Option, Some, if◌then◌else◌, ℕ, ◌==◌}
use Rattle.tape_plot.specs.declared.exchange.Fill.{Fill}
use Rattle.tape_plot.specs.declared.subject.Subject.{Subject}
use Rattle.flow_notes.specs.declared.events.Event.TheVariants as event
use Rattle.flow_notes.specs.declared.notes.Note.TheVariants as note
use Rattle.tape_plot.specs.declared.subject.Subject.TheVariants as subject

-- the exchange whose flows or whose doom a note tells of, or the connection whose write buffer or whose end it tells of
abbrev pub subject_of : Note → Subject
subject_of (note.Start x c s d) = subject.Exchange x
subject_of (note.Arrive f octets) = subject.Exchange f.exchange
subject_of (note.Move f p n) = subject.Exchange f.exchange
subject_of (note.Frame c f n last) = subject.Exchange f.exchange
subject_of (note.Pause f b) = subject.Exchange f.exchange
subject_of (note.Resume f b) = subject.Exchange f.exchange
subject_of (note.Doom x why) = subject.Exchange x
subject_of (note.Head c s octets) = subject.Connection c
subject_of (note.Answer c octets) = subject.Connection c
subject_of (note.Credit c s n) = subject.Connection c
subject_of (note.Out c n) = subject.Connection c
subject_of (note.Close c code why) = subject.Connection c
subject_of (note.Turn k (event.Gone c)) = subject.Connection c
subject_of other = subject.Nothing

-- the flow of an exchange's response, or of its request
abbrev pub flow_id : ℕ → Bool → FlowId
flow_id x back = record { exchange = x; back = back }

-- the one flow that a note tells of
abbrev pub flow_named : Note → Option FlowId
flow_named (note.Arrive f octets) = Some f
flow_named (note.Move f p n) = Some f
flow_named (note.Frame c f n last) = Some f
flow_named (note.Pause f b) = Some f
flow_named (note.Resume f b) = Some f
flow_named other = None

-- how many octets come to the write buffer of a connection
abbrev pub filled_at : Option Fill → ℕ → ℕ
filled_at None c = 0
filled_at (Some fill) c = if fill.conn == c then fill.n else 0
