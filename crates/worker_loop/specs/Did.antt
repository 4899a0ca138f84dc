-- What a worker does, one thing after the other.
use Rattle.flow_notes.specs.declared.events.Event.{Event}
use Rattle.flow_notes.specs.declared.notes.Note.{Note}
use Rattle.std.specs.Prelude.{List, [], ℕ, ◌++◌, ◌∷◌}
use Rattle.worker_ports.specs.declared.wires.Wired.{Wired}

-- at the connections, the permits and the journal
pub data Did : Type 0 where
  -- the connections gave this
  Gave : Wired → Did
  -- a permit was asked for this connection and given, or refused
  Admitted : ℕ → Did
  Refused : ℕ → Did
  -- the client's connection that came was closed
  TurnedAway : ℕ → Did
  -- the permit of a lost connection was left, if it had one
  Left : ℕ → Did
  -- the line of this event was written, and the event dispatched
  Dispatched : Event → Did
  -- a connection that is done with was closed, and its permit left, if it had one
  Ended : ℕ → Did
  -- the notes of the dispatch were handed to the journal
  Noted : List Note → Did
  -- this piece was offered to the connection, which took so many octets from its front
  Offered : ℕ → List ℕ → ℕ → Did

-- ---- of what was done, in order
-- the events that were dispatched
abbrev pub events_of : List Did → List Event
events_of [] = []
events_of (Dispatched e ∷ ds) = e ∷ events_of ds
events_of (d ∷ ds) = events_of ds

-- the notes that were handed over
abbrev pub notes_of : List Did → List Note
notes_of [] = []
notes_of (Noted notes ∷ ds) = notes ++ notes_of ds
notes_of (d ∷ ds) = notes_of ds
