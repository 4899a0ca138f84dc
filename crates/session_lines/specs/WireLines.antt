-- The lines of a wire session so far, and what the next one may be.
use Rattle.flow_notes.specs.Event.{event_spelling}
use Rattle.flow_notes.specs.Line.{newline}
use Rattle.flow_notes.specs.declared.events.Event.{Event}
use Rattle.io_ports.specs.declared.octets.NoMemory.{NoMemory}
use Rattle.session_lines.specs.WireOrder.{MayFollowWire, MayFollowWireAll}
use Rattle.session_lines.specs.WireOrders.{WireOrderIs}
use Rattle.session_lines.specs.declared.order.LineRead.{LineRead}
use Rattle.session_lines.specs.declared.wire_lines.WireLines.{WireLines}
use Rattle.std.specs.Prelude.{Bool, Err, List, Ok, Result, [], codes, false, length, suc, true, ℕ, ◌++◌, ◌∷◌, ◌≡◌}
use Rattle.session_lines.specs.declared.order.LineRead.TheVariants as read

-- no line yet; or the header, with the events of the lines behind it, newest first
pub data WireSeen : Type 0 where
  NoLine : WireSeen
  Behind : List Event → WireSeen

-- what a line spells
pub data WireItem : Type 0 where
  WireHeader : WireItem
  WireEvent : Event → WireItem

abbrev pub wire_header : List ℕ
wire_header = codes "h2replay-session 1 wire"

-- whether the next line may spell this, with these names of clusters and so many resources
abbrev pub MayComeWire : List (List ℕ) → ℕ → WireSeen → WireItem → Type 0
MayComeWire names resources NoLine WireHeader = Unit {0}
MayComeWire names resources (Behind es) (WireEvent e) = MayFollowWire names resources es e
MayComeWire names resources seen item = ⊥

abbrev pub wire_line : List (List ℕ) → WireItem → List ℕ
wire_line names WireHeader = wire_header
wire_line names (WireEvent e) = event_spelling names e

-- the line spells what may come
pub record SpellsWire (names : List (List ℕ)) (resources : ℕ) (seen : WireSeen) (line : List ℕ) (item : WireItem) : Type 0 where
  pub may : MayComeWire names resources seen item
  pub is : wire_line names item ≡ line

-- it spells nothing that may come
abbrev pub SpellsNoWire : List (List ℕ) → ℕ → WireSeen → List ℕ → Type 0
SpellsNoWire names resources seen line = (item : WireItem) → SpellsWire names resources seen line item → ⊥

-- the lines with one more
abbrev pub wire_more : WireSeen → WireItem → WireSeen
wire_more seen WireHeader = Behind []
wire_more (Behind es) (WireEvent e) = Behind (e ∷ es)
wire_more seen item = seen

-- their text, with their newlines
abbrev pub wire_event_lines : List (List ℕ) → List Event → List ℕ
wire_event_lines names [] = []
wire_event_lines names (e ∷ es) = wire_event_lines names es ++ (event_spelling names e ++ newline)

abbrev pub wire_text : List (List ℕ) → WireSeen → List ℕ
wire_text names NoLine = []
wire_text names (Behind es) = (wire_header ++ newline) ++ wire_event_lines names es

-- how many they are
abbrev pub wire_lines : WireSeen → ℕ
wire_lines NoLine = 0
wire_lines (Behind es) = suc (length es)

abbrev pub wire_events : WireSeen → List Event
wire_events NoLine = []
wire_events (Behind es) = es

-- whether the header was read, so that events may come
abbrev pub is_headed : WireSeen → Bool
is_headed NoLine = false
is_headed (Behind es) = true

-- lines that may come one after another
abbrev pub IsWireSeen : List (List ℕ) → ℕ → WireSeen → Type 0
IsWireSeen names resources NoLine = Unit {0}
IsWireSeen names resources (Behind es) = MayFollowWireAll names resources es

-- the lines of a session with these names and so many resources
pub record WireLinesAre (lines : WireLines) (names : List (List ℕ)) (resources : ℕ) (seen : WireSeen) : Type 0 where
  pub names_are : lines.names ≡ names
  pub headed_is : lines.headed ≡ is_headed seen
  pub order_is : WireOrderIs lines.order resources (wire_events seen)

abbrev pub wire_read : WireItem → LineRead
wire_read WireHeader = read.Header
wire_read (WireEvent e) = read.Event e

-- the line was read as what it spells
pub record AcceptsWire (names : List (List ℕ)) (resources : ℕ) (seen : WireSeen) (line : List ℕ) (new : WireLines) (answer : LineRead) : Type 0 where
  pub item : WireItem
  pub spells : SpellsWire names resources seen line item
  pub read : answer ≡ wire_read item
  pub lines : WireLinesAre new names resources (wire_more seen item)

-- it spells nothing that may come, and all is as it was
pub record RefusesWire (names : List (List ℕ)) (resources : ℕ) (seen : WireSeen) (line : List ℕ) (new : WireLines) : Type 0 where
  pub none : SpellsNoWire names resources seen line
  pub lines : WireLinesAre new names resources seen

abbrev pub ReadsWireAt : List (List ℕ) → ℕ → WireSeen → List ℕ → WireLines → Result LineRead NoMemory → Type 0
ReadsWireAt names resources seen line new (Ok read.Refused) = RefusesWire names resources seen line new
ReadsWireAt names resources seen line new (Ok answer) = AcceptsWire names resources seen line new answer
ReadsWireAt names resources seen line new (Err e) = WireLinesAre new names resources seen

pub record ReadsWireLine (old : WireLines) (line : List ℕ) (new : WireLines) (result : Result LineRead NoMemory) : Type 0 where
  pub goes : (names : List (List ℕ)) (resources : ℕ) (seen : WireSeen) → WireLinesAre old names resources seen → ReadsWireAt names resources seen line new result
