-- The kind of session that a plain session is: what its events ask for, and when a stream has to end.
use Rattle.flow_notes.specs.declared.events.PlainEvent.{PlainEvent}
use Rattle.std.specs.Prelude.{Bool, List, [], false, if◌then◌else◌, length, nat_lt, ℕ, ◌&&◌, ◌+◌, ◌||◌, ◌∷◌}
use Rattle.tape_laws.specs.Causes.{HasCause}
use Rattle.tape_laws.specs.Dispatches.{has, live}
use Rattle.tape_laws.specs.Flows.{request}
use Rattle.tape_laws.specs.History.{History, NoMark, Noted, Step}
use Rattle.tape_laws.specs.Plain.{paired_with, plain_setup}
use Rattle.tape_laws.specs.Room.{room_demand}
use Rattle.tape_laws.specs.Setup.{Session, Setup}
use Rattle.tape_laws.specs.Units.{Demand, WantsArrive, WantsDoom, WantsStart}
use Rattle.tape_laws.specs.World.{recv}
use Rattle.tape_laws.specs.declared.PlainLimits.{PlainLimits}
use Rattle.flow_rules.specs.declared.causes.Cause.TheVariants as cause
use Rattle.flow_notes.specs.declared.events.Event.TheVariants as event
use Rattle.flow_notes.specs.declared.notes.Note.TheVariants as note
use Rattle.flow_notes.specs.declared.events.PlainEvent.TheVariants as plain

abbrev pub ask_if : Bool → Demand → List Demand
ask_if b d = if b then d ∷ [] else []

-- What an event asks for: a start, the arrival of its octets or the doom of a stream that would hold more than its
-- window (FLOW_CONTROL_ERROR, 3), the doom of a stream that is reset (CANCEL, 8), or octets that leave.
abbrev pub plain_demand : {Mark : Type 0} → Setup Mark → PlainEvent → History Mark → List Demand
plain_demand setup (plain.Begin s) past = WantsStart s 0 s 0 ∷ []
plain_demand setup (plain.Body s octets) past = ask_if (has (live past) s)
    (if nat_lt setup.recv (length (recv setup (request s) past) + length octets) then WantsDoom s (cause.StreamError 3)
    else WantsArrive (request s) octets)
plain_demand setup (plain.Cut s) past = ask_if (has (live past) s) (WantsDoom s (cause.PeerReset 8))
plain_demand setup (plain.Room n) past = room_demand setup 0 n past
plain_demand setup e past = []

-- only an event asks for something at once
abbrev pub plain_asked : {Mark : Type 0} → PlainLimits → Step Mark → History Mark → List Demand
plain_asked limits (Noted (note.Turn k (event.Plain e))) past = plain_demand (plain_setup limits) e past
plain_asked limits step past = []

-- The stream's end was framed, or that of one whose end dooms it, where it was named as such by then: a pair that is
-- named after the end of its first stream dooms nobody.
abbrev pub plain_must_end : {Mark : Type 0} → ℕ → History Mark → Bool
plain_must_end x [] = false
plain_must_end x (Noted (note.Frame c f n last) ∷ past) =
    (last && has (x ∷ paired_with x past) f.exchange) || plain_must_end x past
plain_must_end x (step ∷ past) = plain_must_end x past

abbrev pub plain_session : PlainLimits → Session NoMark
plain_session limits = record {
  setup = plain_setup limits;
  asked = plain_asked limits;
  licensed = HasCause (plain_setup limits);
  may = λ step past. Unit {0};
  must_end = plain_must_end;
  leaves = λ past. Unit {0};
}
