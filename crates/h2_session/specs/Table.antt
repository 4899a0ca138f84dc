-- A table of the open streams.
pub use Rattle.number_set.specs.NumberMap.{Puts, one_if}
use Rattle.h2_session.specs.declared.streams.Stream.{Stream}
use Rattle.std.specs.BTreeMap.{is_at}
use Rattle.std.specs.Map.{lookup}
use Rattle.std.specs.Ordering.{nat_cmp}
use Rattle.std.specs.Prelude.{Bool, List, None, Option, Some, if◌then◌else◌, false, true, ℕ, ◌&&◌, ◌||◌}

-- what the table has at a stream
abbrev pub stream_at : ℕ → List (ℕ × Stream) → Option Stream
stream_at s table = lookup (is_at (nat_cmp s)) table

-- a stream that both sides have ended is closed
abbrev pub unless_ended : Stream → Option Stream
unless_ended state = if state.peer_ended && state.ended then None else Some state

-- how an open stream moves where DATA or a header block comes on it, or this side ends it
abbrev pub after_data : Bool → Option Stream → Option Stream
after_data last None = None
after_data last (Some state) = unless_ended (record { peer_ended = state.peer_ended || last; ended = state.ended; head = state.head })

abbrev pub after_block : Bool → Option Stream → Option Stream
after_block last None = None
after_block last (Some state) = unless_ended (record { peer_ended = state.peer_ended || last; ended = state.ended; head = true })

abbrev pub after_end : Option Stream → Option Stream
after_end None = None
after_end (Some state) = unless_ended (record { peer_ended = state.peer_ended; ended = true; head = state.head })

-- the next block is a head again
abbrev pub after_interim : Option Stream → Option Stream
after_interim None = None
after_interim (Some state) = unless_ended (record { peer_ended = state.peer_ended; ended = state.ended; head = false })
