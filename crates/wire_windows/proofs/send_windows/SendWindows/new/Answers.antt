use Rattle.wire_windows.proofs.Sending.{sound_first}
use Rattle.wire_windows.proofs.send_windows.SendWindows.new.Goals as goal

pub invariant_of-result : goal.invariant_of-result
invariant_of-result c = sound_first c.new.result 16384 c.new-2.result c.new-2.ensures
