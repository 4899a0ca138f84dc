-- The peer's new initial windows, one after another (RFC 9113 section 6.9.2).
use Rattle.h2_windows.specs.SendWindow.{Sending, Shift, changed}
use Rattle.std.specs.Option.{option_and_then}
use Rattle.std.specs.Prelude.{List, None, Option, Some, [], if◌then◌else◌, int_le, max, pos, ℕ, ◌-◌, ◌^◌, ◌∷◌}

-- the window under a new initial window, and none where its room would pass the largest window
abbrev pub moved_to : ℕ → Sending → Option Sending
moved_to new w = let moved = changed (Shift w.initial new) w in if int_le moved.room (pos (2 ^ 31 - 1)) then Some moved else None

-- the window once each of them was in force, and none where its room would have passed the largest window
abbrev pub moved_through : List ℕ → Sending → Option Sending
moved_through [] w = Some w
moved_through (new ∷ later) w = option_and_then (moved_through later) (moved_to new w)

-- the greatest and the last of some numbers, of which there is a first
abbrev pub greatest : ℕ → List ℕ → ℕ
greatest first [] = first
greatest first (next ∷ later) = max first (greatest next later)

abbrev pub last : ℕ → List ℕ → ℕ
last first [] = first
last first (next ∷ later) = last next later
