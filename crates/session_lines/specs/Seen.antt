-- The lines of a plain session so far, and what the next one may be.
use Rattle.flow_notes.specs.Event.{event_spelling}
use Rattle.flow_notes.specs.Line.{line_of, newline}
use Rattle.flow_notes.specs.declared.events.Event.{Event}
use Rattle.tape_laws.specs.Following.{MayFollowEvent}
use Rattle.session_lines.specs.declared.order.Format.{Format}
use Rattle.std.specs.Fmt.{decimal}
use Rattle.std.specs.Prelude.{Bool, IsTrue, List, [], codes, false, length, map, nat_le, true, ℕ, ◌&&◌, ◌++◌, ◌+◌, ◌==◌, ◌∷◌, ◌≡◌}
use Rattle.tape_laws.specs.declared.PlainLimits.{PlainLimits}
use Rattle.session_lines.specs.declared.order.Format.TheVariants as format

-- no line yet; the header; or header and limits, with the events of the lines behind them, newest first
pub data Seen : Type 0 where
  Unread : Seen
  Headed : Format → Seen
  Playing : Format → PlainLimits → List Event → Seen

-- what a line spells
pub data Item : Type 0 where
  HeaderOf : Format → Item
  LimitsOf : PlainLimits → Item
  EventOf : Event → Item

abbrev pub header_line : Format → List ℕ
header_line format.One = codes "h2replay-session 1 plain"
header_line format.Two = codes "h2replay-session 2 plain"

-- the limits in octets; format 2 names the quantum too
abbrev pub limit_numbers : Format → PlainLimits → List ℕ
limit_numbers format.One l = l.recv ∷ l.send ∷ l.write ∷ []
limit_numbers format.Two l = l.recv ∷ l.send ∷ l.write ∷ l.quantum ∷ []

abbrev pub limits_line : Format → PlainLimits → List ℕ
limits_line f l = line_of (codes "limits" ∷ map decimal (limit_numbers f l))

-- where format 1 names no quantum it is 16,384
abbrev pub is_quantum : Format → ℕ → Bool
is_quantum format.One n = n == 16384
is_quantum format.Two n = nat_le 16384 n && nat_le n 1048576

abbrev pub are_limits : Format → PlainLimits → Bool
are_limits f l =
    nat_le 1 l.recv && nat_le l.recv 16777216 && nat_le l.send 16777216 && nat_le l.write 16777216 && is_quantum f l.quantum

-- whether the next line may spell this
abbrev pub MayCome : Seen → Item → Type 0
MayCome Unread (HeaderOf f) = Unit {0}
MayCome (Headed f) (LimitsOf l) = IsTrue (are_limits f l)
MayCome (Playing f l es) (EventOf e) = MayFollowEvent es e
MayCome seen item = ⊥

abbrev pub item_line : Seen → Item → List ℕ
item_line seen (HeaderOf f) = header_line f
item_line (Headed f) (LimitsOf l) = limits_line f l
item_line seen (LimitsOf l) = []
item_line seen (EventOf e) = event_spelling [] e

-- the line spells what may come
pub record Spells (seen : Seen) (line : List ℕ) (item : Item) : Type 0 where
  pub may : MayCome seen item
  pub is : item_line seen item ≡ line

-- it spells nothing that may come
abbrev pub SpellsNothing : Seen → List ℕ → Type 0
SpellsNothing seen line = (item : Item) → Spells seen line item → ⊥

-- the lines with one more
abbrev pub seen_more : Seen → Item → Seen
seen_more seen (HeaderOf f) = Headed f
seen_more (Headed f) (LimitsOf l) = Playing f l []
seen_more (Playing f l es) (EventOf e) = Playing f l (e ∷ es)
seen_more seen item = seen

-- their text, with their newlines
abbrev pub event_lines : List Event → List ℕ
event_lines [] = []
event_lines (e ∷ es) = event_lines es ++ (event_spelling [] e ++ newline)

abbrev pub seen_text : Seen → List ℕ
seen_text Unread = []
seen_text (Headed f) = header_line f ++ newline
seen_text (Playing f l es) = (header_line f ++ newline) ++ (limits_line f l ++ newline) ++ event_lines es

-- how many they are
abbrev pub seen_lines : Seen → ℕ
seen_lines Unread = 0
seen_lines (Headed f) = 1
seen_lines (Playing f l es) = length es + 2

abbrev pub seen_events : Seen → List Event
seen_events (Playing f l es) = es
seen_events seen = []

-- whether the limits were read, so that events may come
abbrev pub is_playing : Seen → Bool
is_playing (Playing f l es) = true
is_playing seen = false
