-- Line by line.
use Rattle.wire_run.proofs.Completing.{one_wire_session}
use Rattle.wire_run.proofs.run.one_wire_session.Goals as goal

pub returns : goal.returns
returns c = one_wire_session
