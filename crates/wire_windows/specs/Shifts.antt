-- The windows of open streams, one by one, under a new initial window.
use Rattle.h2_windows.specs.InitialWindows.{moved_to}
use Rattle.h2_windows.specs.SendWindow.{Sending}
use Rattle.std.specs.FinMap.{get}
use Rattle.std.specs.Option.{unwrap_or}
use Rattle.std.specs.Prelude.{Bool, None, Option, Some, false, if◌then◌else◌, is_some, nat_le, true, ℕ, ◌&&◌, ◌-◌, ◌^◌, ◌≡◌}
use Rattle.wire_windows.specs.SendWindows.{SendStreams}

-- the window under the new initial window, if neither it nor the old one nor the room passes the largest window
abbrev pub try_move : ℕ → Sending → Option Sending
try_move new s = if nat_le s.initial (2 ^ 31 - 1) && nat_le new (2 ^ 31 - 1) then moved_to new s else None

abbrev pub may_move : ℕ → Sending → Bool
may_move new s = is_some (try_move new s)

abbrev pub moved_by : ℕ → Sending → Sending
moved_by new s = unwrap_or (try_move new s) s

-- some stream may not go over to it
pub record Refuses (new : ℕ) (streams : SendStreams) : Type 0 where
  pub exchange : ℕ
  pub window : Sending
  pub found : get streams exchange ≡ Some window
  pub refused : may_move new window ≡ false
