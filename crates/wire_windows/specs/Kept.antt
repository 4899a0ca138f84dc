-- The windows as they are kept. Which streams are due a WINDOW_UPDATE stands beside them, with room for every stream that is there.
use Rattle.std.specs.FinMap.{get, len, values}
use Rattle.std.specs.Option.{option_map_or}
use Rattle.std.specs.Prelude.{Bool, false, if◌then◌else◌, length, sum_by, ℕ, ◌≡◌, ◌≤◌}
use Rattle.number_set.specs.NumberSet.{NumberSet, has}
use Rattle.wire_windows.specs.RecvWindows.{IsSound, RecvStreams, RecvWindows, is_due_stream}
use Rattle.wire_windows.specs.declared.recv_windows.RecvWindows.TheInside.{Inside}

abbrev pub windows_of : Inside → RecvWindows
windows_of c = record { conn = c.conn; first = c.first; stray = c.stray; stream_window = c.stream_window; streams = c.streams }

abbrev pub due_count : RecvStreams → ℕ
due_count streams = sum_by (λ s. if is_due_stream s then 1 else 0) (values streams)

abbrev pub is_due_in : ℕ → RecvStreams → Bool
is_due_in x streams = option_map_or is_due_stream (get streams x) false

-- the set has the streams that are due, each once
pub record AreDue (streams : RecvStreams) (due : NumberSet) : Type 0 where
  pub those : (x : ℕ) → has due.items x ≡ is_due_in x streams
  pub counted : length due.items ≡ due_count streams

pub record AreKept (c : Inside) : Type 0 where
  pub sound : IsSound (windows_of c)
  pub due : AreDue c.streams c.due
  pub ready : len c.streams ≤ c.due.room
