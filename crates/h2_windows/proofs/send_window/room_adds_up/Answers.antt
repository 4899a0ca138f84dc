use Rattle.h2_windows.proofs.Rooms.{room-after}
use Rattle.h2_windows.proofs.send_window.room_adds_up.Goals as goal

pub returns : goal.returns
returns c = room-after
