use Rattle.exchange_core.proofs.Narrow.{frame_narrows, room_narrows, still_frameable}
use Rattle.exchange_core.proofs.laws.units_narrow.Goals as goal

pub returns-clause-room : goal.returns-clause-room
returns-clause-room c = room_narrows

pub returns-clause-frame : goal.returns-clause-frame
returns-clause-frame c = frame_narrows

pub returns-clause-frameable : goal.returns-clause-frameable
returns-clause-frameable c = still_frameable
