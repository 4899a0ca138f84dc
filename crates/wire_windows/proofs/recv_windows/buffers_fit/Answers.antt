use Rattle.wire_windows.proofs.Held.{held_each, held_together}
use Rattle.wire_windows.proofs.recv_windows.buffers_fit.Goals as goal

pub returns-clause-together : goal.returns-clause-together
returns-clause-together c = held_together

pub returns-clause-each : goal.returns-clause-each
returns-clause-each c = held_each
