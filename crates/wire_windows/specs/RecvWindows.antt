-- The windows that this side grants to one peer: that of the connection and those of its streams (RFC 9113 sections 5.2 and 6.9).
use Rattle.h2_windows.specs.RecvWindow.{AddsUp, Receiving, is_due}
use Rattle.std.specs.FinMap.{FinMap, empty, get, insert, remove, values}
use Rattle.std.specs.Option.{option_map_or}
use Rattle.std.specs.Ordering.{nat_cmp}
use Rattle.std.specs.Prelude.{Bool, IfSome, IsSomeAnd, Option, false, if◌then◌else◌, is_some, nat_lt, not, sum_by, true, ℕ, ◌&&◌, ◌+◌, ◌-◌, ◌<◌, ◌≡◌, ◌≤◌}
use Rattle.wire_windows.specs.declared.recv_stream.Came.TheVariants.{ConnOver, Fits, StreamOver}
use Rattle.wire_windows.specs.declared.recv_stream.Came.{Came}
use Rattle.wire_windows.specs.declared.recv_stream.RecvStream.{RecvStream}

-- the streams, by exchange
abbrev pub RecvStreams : Type 0
RecvStreams = FinMap nat_cmp RecvStream

pub record RecvWindows : Type 0 where
  pub conn : Receiving
  -- what the first WINDOW_UPDATE of the connection is to grant, and 0 once it was framed
  pub first : ℕ
  -- octets that the connection holds and no stream: they are still to be wasted
  pub stray : ℕ
  -- the window of a stream that begins
  pub stream_window : ℕ
  pub streams : RecvStreams

-- ---- a window
-- n octets, all of them left
abbrev pub whole : ℕ → Receiving
whole n = record { window = n; left = n; held = 0; owed = 0 }

-- n octets came
abbrev pub received : ℕ → Receiving → Receiving
received n w = record w { left = w.left - n; held = w.held + n }

-- n of the octets that it held are owed
abbrev pub owing : ℕ → Receiving → Receiving
owing n w = record w { held = w.held - n; owed = w.owed + n }

-- all that is owed is granted again
abbrev pub regranted : Receiving → Receiving
regranted w = record w { left = w.left + w.owed; owed = 0 }

-- ---- a stream
abbrev pub begun : ℕ → RecvStream
begun n = record { window = whole n; ended = false }

abbrev pub on_window : (Receiving → Receiving) → RecvStream → RecvStream
on_window change s = record s { window = change s.window }

-- END_STREAM came
abbrev pub over : RecvStream → RecvStream
over s = record s { ended = true }

-- a WINDOW_UPDATE is due: the peer may send more, and enough is owed
abbrev pub is_due_stream : RecvStream → Bool
is_due_stream s = not s.ended && is_due s.window.window s.window.owed

-- ---- the stream of an exchange
abbrev pub is_begun : ℕ → RecvWindows → Bool
is_begun x w = is_some (get w.streams x)

-- the octets that it has left, that it holds and that it is owed, 0 where it isn't there
abbrev pub left_in : ℕ → RecvStreams → ℕ
left_in x streams = option_map_or (λ s. s.window.left) (get streams x) 0

abbrev pub held_at : ℕ → RecvWindows → ℕ
held_at x w = option_map_or (λ s. s.window.held) (get w.streams x) 0

abbrev pub owed_at : ℕ → RecvWindows → ℕ
owed_at x w = option_map_or (λ s. s.window.owed) (get w.streams x) 0

abbrev pub is_due_at : ℕ → RecvWindows → Bool
is_due_at x w = option_map_or is_due_stream (get w.streams x) false

-- it is changed, where it is there
abbrev pub changed_at : ℕ → (RecvStream → RecvStream) → RecvStreams → RecvStreams
changed_at x change streams = option_map_or (λ s. insert streams x (change s)) (get streams x) streams

-- ---- all of them
-- what the streams hold together
abbrev pub held_by_all : RecvStreams → ℕ
held_by_all streams = sum_by (λ s. s.window.held) (values streams)

-- The connection holds what its streams hold, and what is still to be wasted. So all that its streams hold fits into the window
-- of the connection, and what one of them holds into the window of a stream.
pub record IsSound (w : RecvWindows) : Type 0 where
  pub held : w.conn.held ≡ held_by_all w.streams + w.stray
  pub conn : AddsUp w.conn
  pub streams : (x : ℕ) → IfSome (get w.streams x) (λ s. AddsUp s.window × (s.window.window ≡ w.stream_window))

-- the least exchange above this one whose stream is due a WINDOW_UPDATE, if there is one
pub record IsNextDue (after : ℕ) (next : Option ℕ) (w : RecvWindows) : Type 0 where
  pub found : IfSome next (λ x. (after < x) × (is_due_at x w ≡ true))
  pub least : (y : ℕ) → after < y → is_due_at y w ≡ true → IsSomeAnd next (λ x. x ≤ y)

-- ---- what happens
-- a connection begins. The peer may send 65,535 octets before any WINDOW_UPDATE (section 6.9.2)
abbrev pub granting : ℕ → ℕ → RecvWindows
granting connection_window stream_window = record {
  conn = whole connection_window;
  first = connection_window - 65535;
  stray = 0;
  stream_window = stream_window;
  streams = empty;
}

abbrev pub begins : ℕ → RecvWindows → RecvWindows
begins x w = record w { streams = insert w.streams x (begun w.stream_window) }

-- DATA of n octets comes on the stream: first the connection counts them, then the stream
abbrev pub arrival : ℕ → ℕ → RecvWindows → Came
arrival x n w = if nat_lt w.conn.left n then ConnOver else (if nat_lt (left_in x w.streams) n then StreamOver else Fits)

abbrev pub counted : Came → ℕ → ℕ → RecvWindows → RecvWindows
counted Fits x n w = record w { conn = received n w.conn; streams = changed_at x (on_window (received n)) w.streams }
counted StreamOver x n w = record w { conn = received n w.conn; stray = w.stray + n }
counted ConnOver x n w = w

-- n octets come that the connection alone counts
abbrev pub comes_late : ℕ → RecvWindows → RecvWindows
comes_late n w = record w { conn = received n w.conn; stray = w.stray + n }

-- n octets leave the receive buffer of the stream
abbrev pub moves : ℕ → ℕ → RecvWindows → RecvWindows
moves x n w = record w { conn = owing n w.conn; streams = changed_at x (on_window (owing n)) w.streams }

-- n octets that the connection alone counts are wasted
abbrev pub wastes : ℕ → RecvWindows → RecvWindows
wastes n w = record w { conn = owing n w.conn; stray = w.stray - n }

abbrev pub ends : ℕ → RecvWindows → RecvWindows
ends x w = record w { streams = changed_at x over w.streams }

-- the stream goes, and with it the n octets of its receive buffer; what else it held is still to be wasted
abbrev pub drops : ℕ → ℕ → RecvWindows → RecvWindows
drops x n w = record w { conn = owing n w.conn; stray = w.stray + (held_at x w - n); streams = remove w.streams x }

-- a WINDOW_UPDATE is framed: the first one of the connection, a later one, and one of a stream
abbrev pub grants_first : RecvWindows → RecvWindows
grants_first w = record w { first = 0 }

abbrev pub grants_conn : RecvWindows → RecvWindows
grants_conn w = record w { conn = regranted w.conn }

abbrev pub grants : ℕ → RecvWindows → RecvWindows
grants x w = record w { streams = changed_at x (on_window regranted) w.streams }
