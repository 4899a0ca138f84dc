use Rattle.std.proofs.Common.{arith}
use Rattle.wire_state.proofs.Credits.{late_go}
use Rattle.wire_state.specs.Progress.{conn_go}
use Rattle.wire_state.proofs.conn.Conn.late.Goals as goal

pub returns-clause-go : goal.returns-clause-go
unfolding conn_go
returns-clause-go c = omega (arith, late_go c.late.result c.args.n c.args.self.now.windows.recv c.late.new.self c.late.ensures.ok c.late.ensures.err)
