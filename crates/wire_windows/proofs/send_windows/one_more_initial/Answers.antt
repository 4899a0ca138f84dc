use Rattle.wire_windows.proofs.Sending.{one_more}
use Rattle.wire_windows.proofs.send_windows.one_more_initial.Goals as goal

pub returns-clause-next : goal.returns-clause-next
returns-clause-next c = one_more
