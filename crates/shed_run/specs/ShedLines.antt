-- What the lines of a session come to at the load shed points, and the line of each event that is shed.
use Rattle.flow_notes.specs.Line.{line_of, newline}
use Rattle.flow_notes.specs.declared.events.Event.{Event}
use Rattle.proxy_config.specs.declared.overload.Point.{Point}
use Rattle.proxy_config.specs.declared.overload.ShedRow.{ShedRow}
use Rattle.session_lines.specs.WireLines.{Behind, IsWireSeen, NoLine, SpellsNoWire, SpellsWire, WireEvent, WireSeen, wire_events}
use Rattle.shed_points.specs.ShedList.{dispatched, kept, shed_list, shed_poster}
use Rattle.shed_points.specs.Shedding.{Became, Judged}
use Rattle.shed_points.specs.declared.verdict.Verdict.{Verdict}
use Rattle.std.specs.Fmt.{decimal}
use Rattle.std.specs.List.{AllByRecursion}
use Rattle.std.specs.Prelude.{Bool, List, [], codes, false, if◌then◌else◌, length, suc, true, ℕ, ◌++◌, ◌+◌, ◌==◌, ◌∷◌, ◌≡◌, ◌⊎◌}
use Rattle.flow_notes.specs.declared.events.Event.TheVariants as event
use Rattle.proxy_config.specs.declared.overload.Point.TheVariants as point
use Rattle.shed_points.specs.declared.verdict.Verdict.TheVariants as verdict

-- ---- which lines may come

-- the posts that stand for drains that were shed are no session's own
abbrev pub is_own : Event → Bool
is_own (event.Post p n job) = p == shed_poster
is_own e = false

-- lines of a wire session without such a post
pub record IsShedSeen (names : List (List ℕ)) (resources : ℕ) (seen : WireSeen) : Type 0 where
  pub may : IsWireSeen names resources seen
  pub none_own : AllByRecursion (λ e. is_own e ≡ false) (wire_events seen)

-- the line spells such a post
pub record SpellsOwn (names : List (List ℕ)) (resources : ℕ) (seen : WireSeen) (line : List ℕ) : Type 0 where
  pub own : Event
  pub spells : SpellsWire names resources seen line (WireEvent own)
  pub is : is_own own ≡ true

-- it spells nothing that may come
abbrev pub SpellsNoShed : List (List ℕ) → ℕ → WireSeen → List ℕ → Type 0
SpellsNoShed names resources seen line = SpellsNoWire names resources seen line ⊎ SpellsOwn names resources seen line

-- the lines of the shed list
abbrev pub shed_seen : List ShedRow → WireSeen → WireSeen
shed_seen rows NoLine = NoLine
shed_seen rows (Behind es) = Behind (shed_list rows es)

-- ---- the lines of what is shed

pub record ShedLine : Type 0 where
  pub number : ℕ
  pub point : Point
  pub conn : ℕ
  pub state : ℕ

abbrev pub point_word : Point → List ℕ
point_word point.Accept = codes "accept"
point_word point.Read = codes "read"
point_word point.Drain = codes "drain"

abbrev pub shed_line : ShedLine → List ℕ
shed_line l = line_of (codes "shed" ∷ decimal l.number ∷ point_word l.point ∷ decimal l.conn ∷ decimal l.state ∷ []) ++ newline

-- the connection that an arrival is of
abbrev pub conn_of : Event → ℕ
conn_of (event.Accept c) = c
conn_of (event.Read c octets) = c
conn_of e = 0

-- the line of an event with this number, if it is shed
abbrev pub line_told : Event → Verdict → ℕ → List ℕ
line_told e (verdict.Shed p state) number = shed_line (record { number = number; point = p; conn = conn_of e; state = state })
line_told e v number = []

-- a line, and behind how many dispatches it stands
pub data Placed : Type 0 where
  At : ℕ → ShedLine → Placed

-- One line for each event that is shed, newest first, with the event's number in the session. It stands behind what was dispatched
-- before, to which the event itself belongs where it is an obey, and so before what is dispatched in its stead.
abbrev pub shed_lines : List Judged → List Placed
shed_lines [] = []
shed_lines (Became e (verdict.Shed p state) ∷ js) =
    At (length (dispatched js) + length (kept e (verdict.Shed p state))) (record { number = suc (length js); point = p; conn = conn_of e; state = state }) ∷ shed_lines js
shed_lines (j ∷ js) = shed_lines js

-- the text of the lines behind so many dispatches
abbrev pub lines_at : ℕ → List Placed → List ℕ
lines_at n [] = []
lines_at n (At k l ∷ ls) = if k == n then lines_at n ls ++ shed_line l else lines_at n ls
