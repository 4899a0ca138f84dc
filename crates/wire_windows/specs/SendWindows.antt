-- The windows that one peer grants to this side: that of the connection and those of its streams (RFC 9113 sections 5.2 and 6.9).
use Rattle.h2_windows.specs.InitialWindows.{greatest, last, moved_through}
use Rattle.h2_windows.specs.SendWindow.{Sending, Spend, Widen, begun, changed}
use Rattle.std.specs.FinMap.{FinMap, empty, get, insert, remove}
use Rattle.std.specs.Option.{option_map_or}
use Rattle.std.specs.Ordering.{nat_cmp}
use Rattle.std.specs.Prelude.{Bool, IfSome, IsSomeAnd, List, None, Some, is_some, option_map, pos, ℕ, ◌+ℤ◌, ◌-◌, ◌^◌, ◌∷◌, ◌≡◌, ◌≤ℤ◌, ◌≤◌}

-- the open streams, by exchange
abbrev pub SendStreams : Type 0
SendStreams = FinMap nat_cmp Sending

pub record SendWindows : Type 0 where
  pub conn : Sending
  -- the peer's initial window of a stream, and the greatest payload of a frame to it
  pub initial : ℕ
  pub payload : ℕ
  pub streams : SendStreams

abbrev pub is_open : ℕ → SendWindows → Bool
is_open x w = is_some (get w.streams x)

-- the stream is changed, where it is open
abbrev pub changed_at : ℕ → (Sending → Sending) → SendStreams → SendStreams
changed_at x change streams = option_map_or (λ s. insert streams x (change s)) (get streams x) streams

-- every open stream goes by the peer's initial window, which is at most the largest window
pub record IsSound (w : SendWindows) : Type 0 where
  pub most : w.initial ≤ 2 ^ 31 - 1
  pub streams : (x : ℕ) → IfSome (get w.streams x) (λ s. s.initial ≡ w.initial)

-- ---- what happens
-- a connection begins, before the peer's SETTINGS came (sections 6.5.2 and 6.9.2)
abbrev pub granted_first : SendWindows
granted_first = record { conn = begun 65535; initial = 65535; payload = 16384; streams = empty }

abbrev pub opens : ℕ → SendWindows → SendWindows
opens x w = record w { streams = insert w.streams x (begun w.initial) }

abbrev pub closes : ℕ → SendWindows → SendWindows
closes x w = record w { streams = remove w.streams x }

-- the connection and the stream have room for n octets
pub record HasRoom (x n : ℕ) (w : SendWindows) : Type 0 where
  pub conn : pos n ≤ℤ w.conn.room
  pub stream : IsSomeAnd (get w.streams x) (λ s. pos n ≤ℤ s.room)

-- n octets of DATA are framed
abbrev pub spends : ℕ → ℕ → SendWindows → SendWindows
spends x n w = record w { conn = changed (Spend n) w.conn; streams = changed_at x (changed (Spend n)) w.streams }

-- a WINDOW_UPDATE of n octets comes: the room of the stream stays within the largest window, and grows
abbrev pub Widens : ℕ → ℕ → SendWindows → Type 0
Widens x n w = IfSome (get w.streams x) (λ s. (s.room +ℤ pos n) ≤ℤ pos (2 ^ 31 - 1))

abbrev pub widens : ℕ → ℕ → SendWindows → SendWindows
widens x n w = record w { streams = changed_at x (changed (Widen n)) w.streams }

abbrev pub widens_conn : ℕ → SendWindows → SendWindows
widens_conn n w = record w { conn = changed (Widen n) w.conn }

-- ---- the peer's new initial windows, one after another (section 6.9.2)
-- each open stream goes over to the first, then to the next, and so on, and none of them overflows
pub record GoesThrough (first : ℕ) (later : List ℕ) (old new : SendWindows) : Type 0 where
  pub streams : (x : ℕ) → option_map Some (get new.streams x) ≡ option_map (moved_through (first ∷ later)) (get old.streams x)
  pub initial : new.initial ≡ last first later
  pub conn : new.conn ≡ old.conn
  pub payload : new.payload ≡ old.payload

-- the room of some open stream would pass the largest window under one of them
pub record Overflows (first : ℕ) (later : List ℕ) (w : SendWindows) : Type 0 where
  pub exchange : ℕ
  pub window : Sending
  pub found : get w.streams exchange ≡ Some window
  pub none : moved_through (first ∷ later) window ≡ None

-- the greatest and the last of them
pub record AreGreatestAndLast (most end first : ℕ) (later : List ℕ) : Type 0 where
  pub most_is : most ≡ greatest first later
  pub end_is : end ≡ last first later
