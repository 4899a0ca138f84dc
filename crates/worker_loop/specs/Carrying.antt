-- Events that are carried out: what is done for each, in which order, and what that makes of the core.
use Rattle.flow_notes.specs.declared.events.Event.{Event}
use Rattle.flow_notes.specs.declared.events.Event.TheVariants as event
use Rattle.flow_notes.specs.declared.notes.Note.{Note}
use Rattle.flow_notes.specs.declared.notes.Note.TheVariants as note
use Rattle.post_queue.specs.declared.posts.Post.{Post}
use Rattle.shared_state.specs.declared.follower.Snapshot.{Snapshot}
use Rattle.std.specs.Prelude.{Bool, List, None, Option, Some, [], filter, if◌then◌else◌, length, map, nat_eq, nat_lt, ℕ, ◌&&◌, ◌++◌, ◌∷◌, ◌≡◌}
use Rattle.worker_core.specs.Fronts.{octets_at}
use Rattle.worker_core.specs.Sessions.{CarriesOut, is_closing, version_of}
use Rattle.worker_core.specs.declared.worker.Kind.{Kind}
use Rattle.worker_core.specs.declared.worker.Kind.TheVariants as kind
use Rattle.worker_loop.specs.Did.{Did, Dispatched, Ended, Noted}

-- the octets that wait for a connection
abbrev pub waiting_at : ℕ → Kind → List ℕ
waiting_at c (kind.Plain core) = []
waiting_at c (kind.Wire session) = octets_at c session.core

-- the core has closed the connection, and nothing waits for it
abbrev pub is_done : Kind → ℕ → Bool
is_done k c = is_closing k c && nat_eq (length (waiting_at c k)) 0

-- the connections that are closed, or of which octets left, in these notes
abbrev pub named_in : List Note → List ℕ
named_in [] = []
named_in (note.Close c code cause ∷ ns) = c ∷ named_in ns
named_in (note.Out c n ∷ ns) = c ∷ named_in ns
named_in (n ∷ ns) = named_in ns

-- what is done for an event with these notes, once it was dispatched: each connection that they name and that is done with is
-- ended, and they are handed over
abbrev pub carried : Event → Kind → List Note → List Did
carried e new notes = Dispatched e ∷ map Ended (filter (is_done new) (named_in notes)) ++ Noted notes ∷ []

-- an event was dispatched, whole
pub record Carried (e : Event) (k : Kind) (ds : List Did) (new : Kind) : Type 0 where
  pub notes : List Note
  pub carries : CarriesOut k [] e new notes
  pub is : ds ≡ carried e new notes

-- one event after the other
pub data CarriedAll : List Event → Kind → List Did → Kind → Type 0 where
  Nothing : (k : Kind) → CarriedAll [] k [] k
  One : (e : Event) (es : List Event) (k mid new : Kind) (ds rest : List Did) → Carried e k ds mid → CarriedAll es mid rest new → CarriedAll (e ∷ es) k (ds ++ rest) new

-- the event, if there is one
abbrev pub events_in : Option Event → List Event
events_in None = []
events_in (Some e) = e ∷ []

abbrev pub post_event : Post → Event
post_event p = event.Post p.poster p.number p.job

-- a version is obeyed where it is newer than the one that was obeyed last
abbrev pub obeyed_event : Kind → ℕ → List ℕ → Option Event
obeyed_event k version pressures = if nat_lt (version_of k) version then Some (event.Obey version pressures) else None

-- what a connection took is an event of room
abbrev pub room_event : ℕ → ℕ → Option Event
room_event c n = if nat_lt 0 n then Some (event.Room c n) else None

-- what a follower answered is obeyed, if it answered anything newer
abbrev pub obeys : Option Snapshot → List Event
obeys None = []
obeys (Some s) = event.Obey s.version s.pressures ∷ []

-- the pressures that it answered, if any
abbrev pub pressures_in : Option Snapshot → List ℕ
pressures_in None = []
pressures_in (Some s) = s.pressures
