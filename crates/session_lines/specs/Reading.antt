-- What reading one event does to the courses.
use Rattle.flow_notes.specs.Event.{IsEvent, event_spelling}
use Rattle.flow_notes.specs.Fields.{FitsEvent}
use Rattle.flow_notes.specs.declared.events.Event.{Event}
use Rattle.flow_notes.specs.declared.events.PlainEvent.{PlainEvent}
use Rattle.io_ports.specs.declared.octets.NoMemory.{NoMemory}
use Rattle.session_lines.specs.Courses.{CoursesAre, Follows}
use Rattle.tape_laws.specs.Following.{may_follow}
use Rattle.session_lines.specs.declared.courses.Courses.{Courses}
use Rattle.session_lines.specs.declared.order.LineRead.{LineRead}
use Rattle.std.specs.Prelude.{Err, List, Ok, Result, false, true, ℕ, ◌∷◌, ◌≡◌}
use Rattle.flow_notes.specs.declared.events.Event.TheVariants as event
use Rattle.session_lines.specs.declared.order.LineRead.TheVariants as read

-- an event that has this spelling, and may follow
pub record SpellsEvent (names : List (List ℕ)) (es : List Event) (line : List ℕ) (e : PlainEvent) : Type 0 where
  pub in_range : IsEvent names (event.Plain e)
  pub fits : FitsEvent (event.Plain e)
  pub follows : may_follow es e ≡ true
  pub is : event_spelling names (event.Plain e) ≡ line

abbrev pub EventAt : List (List ℕ) → List Event → List ℕ → Courses → Event → Type 0
EventAt names es line new (event.Plain e) = SpellsEvent names es line e × CoursesAre new (event.Plain e ∷ es)
EventAt names es line new e = ⊥

abbrev pub EventReadAt : List (List ℕ) → List Event → List ℕ → Courses → Result LineRead NoMemory → Type 0
EventReadAt names es line new (Ok (read.Event e)) = EventAt names es line new e
EventReadAt names es line new (Ok read.Refused) = ((e : PlainEvent) → SpellsEvent names es line e → ⊥) × CoursesAre new es
EventReadAt names es line new (Ok answer) = ⊥
EventReadAt names es line new (Err x) = CoursesAre new es

pub record ReadsEvent (names : List (List ℕ)) (old : Courses) (line : List ℕ) (new : Courses) (result : Result LineRead NoMemory) : Type 0 where
  pub goes : (es : List Event) → CoursesAre old es → EventReadAt names es line new result

-- an event that may follow has followed, and one that may not is refused
abbrev pub FollowedAs : Courses → PlainEvent → Courses → Result LineRead NoMemory → Type 0
FollowedAs old e new (Ok (read.Event f)) = (f ≡ event.Plain e) × Follows old e new (Ok true)
FollowedAs old e new (Ok read.Refused) = Follows old e new (Ok false)
FollowedAs old e new (Ok answer) = ⊥
FollowedAs old e new (Err x) = Follows old e new (Err x)

pub record FollowsRead (old : Courses) (e : PlainEvent) (new : Courses) (result : Result LineRead NoMemory) : Type 0 where
  pub as_read : FollowedAs old e new result
