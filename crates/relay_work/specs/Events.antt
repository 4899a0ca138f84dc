-- What connections tell and take, as events of a relay, and the tape that goes on with them.
use Rattle.flow_notes.specs.Event.{event_spelling}
use Rattle.flow_notes.specs.Line.{newline}
use Rattle.flow_notes.specs.declared.events.Event.{Event}
use Rattle.relay_laws.specs.Dispatch.{dispatch_notes}
use Rattle.relay_laws.specs.Pairs.{Tape}
use Rattle.std.specs.Prelude.{List, None, Option, Some, [], flat_map, if◌then◌else◌, ℕ, ◌++◌, ◌==◌, ◌∷◌}
use Rattle.tape_laws.specs.History.{onto}
use Rattle.worker_ports.specs.declared.wires.WireStep.{WireStep}
use Rattle.worker_ports.specs.declared.wires.Wired.{Wired}
use Rattle.flow_notes.specs.declared.events.Event.TheVariants as event
use Rattle.worker_ports.specs.declared.wires.WireStep.TheVariants as step
use Rattle.worker_ports.specs.declared.wires.Wired.TheVariants as wired

-- what was told, as an event; a lost connection is gone
abbrev pub event_told : Wired → Option Event
event_told (wired.Accept c) = Some (event.Accept c)
event_told (wired.Join c cluster) = Some (event.Join c cluster)
event_told (wired.Read c octets) = Some (event.Read c octets)
event_told (wired.Lost c) = Some (event.Gone c)
event_told wired.Idle = None
event_told wired.Stop = None

-- octets that were taken, if they were any, are room for so many
abbrev pub event_taken : ℕ → ℕ → Option Event
event_taken c n = if n == 0 then None else Some (event.Room c n)

abbrev pub event_in : WireStep → Option Event
event_in (step.Gave w) = event_told w
event_in (step.Offered c piece n) = event_taken c n
event_in (step.Closed c) = None

abbrev pub in_front : Option Event → List Event → List Event
in_front None es = es
in_front (Some e) es = e ∷ es

abbrev pub events_in : List WireStep → List Event
events_in [] = []
events_in (s ∷ steps) = in_front (event_in s) (events_in steps)

-- the lines of events, in order
abbrev pub lines_of : List (List ℕ) → List Event → List ℕ
lines_of names es = flat_map (λ e. event_spelling names e ++ newline) es

-- a relay's tape goes on with the whole dispatch of an event, and with those of some steps
abbrev pub tape_with : ℕ → Option Event → Tape → Tape
tape_with limit None h = h
tape_with limit (Some e) h = onto (dispatch_notes limit e h) h

abbrev pub tape_after : ℕ → List WireStep → Tape → Tape
tape_after limit [] h = h
tape_after limit (s ∷ steps) h = tape_after limit steps (tape_with limit (event_in s) h)

-- the events of a tape, newest first, once these came
abbrev pub shown_after : List Event → List Event → List Event
shown_after [] past = past
shown_after (e ∷ es) past = shown_after es (e ∷ past)
