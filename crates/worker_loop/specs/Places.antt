-- What is seen of a worker's journal, connections and permits, and what each thing that it does changes there.
use Rattle.flow_notes.specs.Event.{event_spelling}
use Rattle.flow_notes.specs.Line.{newline}
use Rattle.flow_notes.specs.declared.events.Event.{Event}
use Rattle.flow_notes.specs.declared.events.Event.TheVariants as event
use Rattle.flow_notes.specs.declared.notes.Note.{Note}
use Rattle.number_set.specs.NumberSet.{marked}
use Rattle.shared_state.specs.PermitRule.{granted}
use Rattle.shared_state.specs.PermitSeats.{refused_and_paid}
use Rattle.shared_state.specs.declared.permit_rule.PermitView.{PermitView}
use Rattle.std.specs.Io.KnownBytes.{Appends}
use Rattle.std.specs.Prelude.{List, Option, [], false, length, true, ℕ, ◌++◌, ◌∷◌, ◌≡◌}
use Rattle.worker_loop.specs.Did.{Did, Admitted, Dispatched, Ended, Gave, Left, Noted, Offered, Refused, TurnedAway}
use Rattle.worker_parts.specs.Held.{with_fewer}
use Rattle.worker_parts.specs.Journals.{with_notes}
use Rattle.worker_ports.specs.Wires.{Gives, Seen, closed, offered}

pub record Place : Type 0 where
  -- the journal's text and the notes that it was handed, where these are told
  pub text : Option (List ℕ)
  pub told : Option (List Note)
  -- what is seen of the connections, those that have a permit, and what the permits' seat knows
  pub seen : Seen
  pub held : List ℕ
  pub seat : PermitView

abbrev pub place_of : Option (List ℕ) → Option (List Note) → Seen → List ℕ → PermitView → Place
place_of text told seen held seat = record { text = text; told = told; seen = seen; held = held; seat = seat }

-- the line of an event, with its newline
abbrev pub event_line : List (List ℕ) → Event → List ℕ
event_line names e = event_spelling names e ++ newline

-- that of a tick, which names no cluster
abbrev pub tick_line : ℕ → List ℕ
tick_line now = event_line [] (event.Tick now)

-- the permit of a connection is left, if it has one
abbrev pub without_permit : ℕ → Place → Place
without_permit c v = record v { held = marked c false v.held; seat = with_fewer (length v.held) (length (marked c false v.held)) v.seat }

abbrev pub closed_at : ℕ → Place → Place
closed_at c v = record v { seen = closed c v.seen }

-- what each changes
abbrev pub Changes : List (List ℕ) → Place → Did → Place → Type 0
Changes names v (Gave wired) w = (w ≡ record v { seen = w.seen }) × Gives v.seen wired w.seen
Changes names v (Admitted c) w = (w ≡ record v { held = marked c true v.held; seat = w.seat }) × (w.seat ≡ granted v.seat w.seat.find)
Changes names v (Refused c) w = (w ≡ record v { seat = w.seat }) × (w.seat ≡ refused_and_paid v.seat w.seat.find)
Changes names v (TurnedAway c) w = w ≡ closed_at c v
Changes names v (Left c) w = w ≡ without_permit c v
Changes names v (Dispatched e) w = (w ≡ record v { text = w.text }) × Appends v.text w.text (event_line names e)
Changes names v (Ended c) w = w ≡ without_permit c (closed_at c v)
Changes names v (Noted notes) w = w ≡ record v { told = with_notes notes v.told }
Changes names v (Offered c piece n) w = w ≡ record v { seen = offered c piece n v.seen }

-- these were done, one after the other
abbrev pub Becomes : List (List ℕ) → Place → List Did → Place → Type 0
Becomes names v [] w = w ≡ v
Becomes names v (d ∷ ds) w = (u : Place) × Changes names v d u × Becomes names u ds w
