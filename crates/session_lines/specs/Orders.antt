-- What an order stands for, and what reading one line does.
use Rattle.io_ports.specs.declared.octets.NoMemory.{NoMemory}
use Rattle.session_lines.specs.Courses.{CoursesAre}
use Rattle.session_lines.specs.Seen.{EventOf, Headed, HeaderOf, Item, LimitsOf, Playing, Seen, Spells, Unread, is_playing, seen_more}
use Rattle.session_lines.specs.declared.order.LineRead.{LineRead}
use Rattle.session_lines.specs.declared.order.Order.{Order}
use Rattle.session_lines.specs.declared.order.Stage.{Stage}
use Rattle.std.specs.Prelude.{Bool, Err, List, Ok, Result, [], false, true, ℕ, ◌≡◌}
use Rattle.session_lines.specs.declared.order.LineRead.TheVariants as read
use Rattle.session_lines.specs.declared.order.Stage.TheVariants as stage

abbrev pub StageIs : Stage → Seen → Type 0
StageIs stage.Begins Unread = Unit {0}
StageIs (stage.Headed f) (Headed g) = f ≡ g
StageIs (stage.Plays courses) (Playing f l es) = CoursesAre courses es
StageIs s seen = ⊥

abbrev pub plays_at : Stage → Bool
plays_at (stage.Plays courses) = true
plays_at s = false

-- an order stands for the lines so far
pub record OrderIs (order : Order) (seen : Seen) : Type 0 where
  pub names : order.names ≡ []
  pub stage : StageIs order.stage seen

-- what a line was read as
abbrev pub read_of : Item → LineRead
read_of (HeaderOf f) = read.Header
read_of (LimitsOf l) = read.Limits l
read_of (EventOf e) = read.Event e

-- the line was read as what it spells, and the order has it
pub record Accepts (seen : Seen) (line : List ℕ) (new : Order) (answer : LineRead) : Type 0 where
  pub item : Item
  pub spells : Spells seen line item
  pub read : answer ≡ read_of item
  pub order : OrderIs new (seen_more seen item)

-- it spells nothing that may come, and the order is as it was
pub record Refuses (seen : Seen) (line : List ℕ) (new : Order) : Type 0 where
  pub none : (item : Item) → Spells seen line item → ⊥
  pub order : OrderIs new seen

abbrev pub ReadsAt : Seen → List ℕ → Order → Result LineRead NoMemory → Type 0
ReadsAt seen line new (Ok read.Refused) = Refuses seen line new
ReadsAt seen line new (Ok answer) = Accepts seen line new answer
ReadsAt seen line new (Err e) = OrderIs new seen

pub record ReadsLine (old : Order) (line : List ℕ) (new : Order) (result : Result LineRead NoMemory) : Type 0 where
  pub goes : (seen : Seen) → OrderIs old seen → ReadsAt seen line new result

-- the limits were read
abbrev pub has_played : Order → Bool
has_played order = plays_at order.stage

-- whether events may come
pub record PlaysNow (order : Order) (answer : Bool) : Type 0 where
  pub goes : (seen : Seen) → OrderIs order seen → answer ≡ is_playing seen
