-- What is seen of the connections of a relay, each by its number.
use Rattle.relay_laws.specs.declared.Feed.{Feed}
use Rattle.std.specs.BTreeMap.{BTreeMap, get}
use Rattle.std.specs.Ordering.{nat_cmp}
use Rattle.std.specs.Prelude.{Bool, List, None, Option, Some, [], drop, false, if◌then◌else◌, length, min, not, option_map, ℕ, ◌&&◌, ◌++◌, ◌==◌, ◌≡◌}
use Rattle.tcp_relay.specs.declared.conns.Conn.{Conn}
use Rattle.tcp_relay.specs.declared.conns.Taken.{Taken}
use Rattle.wm_buffer.specs.Watermark.{above_after}

-- an open connection: what waits for it, whether that is above the limit, and what it feeds
pub record Line : Type 0 where
  pub octets : List ℕ
  pub limit : ℕ
  pub above : Bool
  pub feeds : Option Feed

abbrev pub seen : Conn → Line
seen conn = record { octets = conn.write.octets; limit = conn.write.limit; above = conn.write.above; feeds = conn.feeds }

abbrev pub Conns : Type 0
Conns = BTreeMap ℕ Conn

abbrev pub line_in : Conns → ℕ → Option Line
line_in conns c = option_map seen (get nat_cmp conns c)

-- one connection changed, and no other
abbrev pub Changes : ℕ → (Option Line → Option Line) → Conns → Conns → Type 0
Changes c change old new = (d : ℕ) → line_in new d ≡ (if c == d then change (line_in old d) else line_in old d)

-- a connection that came, with what it feeds
abbrev pub new_line : ℕ → Option Feed → Line
new_line limit feeds = record { octets = []; limit = limit; above = false; feeds = feeds }

-- from now on it feeds this
abbrev pub fed : Option Feed → Line → Line
fed feeds line = record line { feeds = feeds }

-- it holds these octets
abbrev pub holding : List ℕ → Line → Line
holding octets line = record line { octets = octets; above = above_after line.limit line.above (length octets) }

-- octets came for it, and the first n left it
abbrev pub added : List ℕ → Line → Line
added octets line = holding (line.octets ++ octets) line

-- how many of up to n octets leave it
abbrev pub leaving : ℕ → Line → ℕ
leaving n line = min n (length line.octets)

abbrev pub dropped : ℕ → Line → Line
dropped n line = if leaving n line == 0 then line else holding (drop (leaving n line) line.octets) line

-- its write buffer rose by these octets
abbrev pub rises_by : List ℕ → Option Line → Bool
rises_by octets None = false
rises_by octets (Some line) = not line.above && (added octets line).above

-- what is told of the leaving of octets, if any leave
abbrev pub taken : ℕ → Line → Option Taken
taken n line =
    if leaving n line == 0 then None
    else Some (record {
      n = leaving n line;
      drained = line.above && not (dropped n line).above;
      is_empty = length (dropped n line).octets == 0;
      feeds = line.feeds;
    })

abbrev pub taken_of : ℕ → Option Line → Option Taken
taken_of n None = None
taken_of n (Some line) = taken n line

-- what a connection feeds
abbrev pub feeds_of : Option Line → Option Feed
feeds_of None = None
feeds_of (Some line) = line.feeds

-- what waits for it
abbrev pub octets_of : Option Line → List ℕ
octets_of None = []
octets_of (Some line) = line.octets

-- how much waits for it, where that is above
abbrev pub held_in : Option Line → Option ℕ
held_in None = None
held_in (Some line) = if line.above then Some (length line.octets) else None

-- it is there, and nothing waits for it
abbrev pub is_idle_at : Option Line → Bool
is_idle_at None = false
is_idle_at (Some line) = length line.octets == 0
