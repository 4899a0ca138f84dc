-- How a connection is kept: its state, its exchanges, and which of them is on which stream.
use Rattle.std.specs.BTreeMap.{insert_entry, is_at}
use Rattle.std.specs.Map.{remove_entry}
use Rattle.std.specs.Ordering.{nat_cmp}
use Rattle.std.specs.Prelude.{List, None, Option, Some, false, true, ℕ}
use Rattle.number_set.specs.NumberSet.{marked}
use Rattle.wire_links.specs.declared.conn.Conn.{Conn}
use Rattle.wire_links.specs.declared.seat.Seat.TheInside.{Inside}

pub record Seat : Type 0 where
  pub conn : Conn
  -- the numbers of its exchanges, in order
  pub numbers : List ℕ
  -- the exchange on each stream
  pub streams : List (ℕ × ℕ)

abbrev pub seat_of : Inside → Seat
seat_of c = record { conn = c.conn; numbers = c.numbers.items; streams = c.streams }

abbrev pub with_state : Conn → Seat → Seat
with_state conn seat = record seat { conn = conn }

-- an exchange comes, is on a stream from now on, or both at once
abbrev pub linked : ℕ → Seat → Seat
linked x seat = record seat { numbers = marked x true seat.numbers }

abbrev pub placed : ℕ → ℕ → Seat → Seat
placed stream x seat = record seat { streams = insert_entry nat_cmp seat.streams stream x }

abbrev pub opened : ℕ → ℕ → Seat → Seat
opened stream x seat = linked x (placed stream x seat)

-- an exchange goes, and with it its stream, if it has one
abbrev pub without_stream : Option ℕ → List (ℕ × ℕ) → List (ℕ × ℕ)
without_stream None streams = streams
without_stream (Some stream) streams = remove_entry (is_at (nat_cmp stream)) streams

abbrev pub left : ℕ → Option ℕ → Seat → Seat
left x stream seat = record seat { numbers = marked x false seat.numbers; streams = without_stream stream seat.streams }
