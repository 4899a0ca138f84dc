-- What a relay stands for: the tape whose connections, pairs and octets it keeps.
use Rattle.relay_laws.specs.Pairs.{Tape, feed, free, is_open, pairs}
use Rattle.relay_laws.specs.Watermark.{above}
use Rattle.relay_laws.specs.World.{out}
use Rattle.relay_laws.specs.declared.Feed.{Feed}
use Rattle.std.specs.Prelude.{Bool, List, None, Option, Some, if◌then◌else◌, length, nat_lt, ℕ}
use Rattle.tcp_relay.specs.Board.{Board}
use Rattle.tcp_relay.specs.Lines.{Line}

-- a connection, if it is open
abbrev pub line_if : Bool → List ℕ → ℕ → Bool → Option Feed → Option Line
line_if opened octets limit above feeds =
    if opened then Some (record { octets = octets; limit = limit; above = above; feeds = feeds }) else None

-- a connection as the tape has it
abbrev pub line_of : ℕ → ℕ → Tape → Option Line
line_of limit c h = line_if (is_open c h) (out c h) limit (above limit c h) (feed c h)

-- all connections as the tape has them
abbrev pub tape_board : ℕ → Tape → Board
tape_board limit h = record {
  limit = limit;
  pairs = pairs h;
  free = free h;
  lines = λ c. line_of limit c h;
  waits = λ c. nat_lt 0 (length (out c h));
}
