-- What the courses of streams stand for: the events of a plain session so far, newest first.
use Rattle.flow_notes.specs.declared.events.Event.{Event}
use Rattle.flow_notes.specs.declared.events.PlainEvent.{PlainEvent}
use Rattle.io_ports.specs.declared.octets.NoMemory.{NoMemory}
use Rattle.tape_laws.specs.Following.{begun, cut, finished, may_follow, paired}
use Rattle.session_lines.specs.declared.courses.Course.{Course}
use Rattle.session_lines.specs.declared.courses.Courses.{Courses}
use Rattle.std.specs.BTreeMap.{get}
use Rattle.std.specs.Ordering.{nat_cmp}
use Rattle.std.specs.Prelude.{Bool, Err, List, None, Ok, Option, Result, Some, [], false, if◌then◌else◌, max, not, true, ℕ, ◌&&◌, ◌<◌, ◌∷◌, ◌≡◌}
use Rattle.tape_laws.specs.Dispatches.{has}
use Rattle.flow_notes.specs.declared.events.Event.TheVariants as event
use Rattle.flow_notes.specs.declared.events.PlainEvent.TheVariants as plain

-- the greatest of a list, 0 where it is empty
abbrev pub greatest_of : List ℕ → ℕ
greatest_of [] = 0
greatest_of (x ∷ xs) = max x (greatest_of xs)

-- the course of a stream
abbrev pub course_of : List Event → ℕ → Option Course
course_of es s =
    if has (begun es) s then Some (record { ended = has (finished es) s; cut = has (cut es) s; paired = has (paired es) s }) else None

-- nothing came of a stream before it began
pub record IsFresh (es : List Event) (s : ℕ) : Type 0 where
  pub finished : has (finished es) s ≡ false
  pub cut : has (cut es) s ≡ false
  pub paired : has (paired es) s ≡ false

pub record CoursesAre (courses : Courses) (es : List Event) : Type 0 where
  pub greatest : courses.greatest ≡ greatest_of (begun es)
  pub streams : (s : ℕ) → get nat_cmp courses.streams s ≡ course_of es s
  pub fresh : (s : ℕ) → has (begun es) s ≡ false → IsFresh es s

-- an event that may follow has followed; one that may not leaves all as it was
abbrev pub FollowsAt : List Event → PlainEvent → Courses → Result Bool NoMemory → Type 0
FollowsAt es e new (Ok true) = (may_follow es e ≡ true) × CoursesAre new (event.Plain e ∷ es)
FollowsAt es e new (Ok false) = (may_follow es e ≡ false) × CoursesAre new es
FollowsAt es e new (Err x) = CoursesAre new es

pub record Follows (old : Courses) (e : PlainEvent) (new : Courses) (result : Result Bool NoMemory) : Type 0 where
  pub goes : (es : List Event) → CoursesAre old es → FollowsAt es e new result

-- the course of a stream that takes octets
abbrev pub flowing_of : Option Course → Option Course
flowing_of None = None
flowing_of (Some c) = if not c.ended && not c.cut then Some c else None

-- the course of one that may be reset, or paired
abbrev pub uncut_of : Option Course → Option Course
uncut_of None = None
uncut_of (Some c) = if not c.cut then Some c else None

abbrev pub unpaired_of : Option Course → Option Course
unpaired_of None = None
unpaired_of (Some c) = if not c.paired then Some c else None

-- a stream that begins has a number above 0
abbrev pub IsNumbered : PlainEvent → Type 0
IsNumbered (plain.Begin s) = 0 < s
IsNumbered e = Unit {0}
