use Rattle.std.proofs.Common.{ap, arith, sym}
use Rattle.std.specs.Prelude.{is_some}
use Rattle.wire_state.proofs.Credits.{begun_go}
use Rattle.wire_state.specs.Progress.{conn_go}
use Rattle.wire_state.proofs.conn.Conn.begin_recv.Goals as goal

pub returns-in-None-clause-go : goal.returns-in-None-clause-go
unfolding conn_go
returns-in-None-clause-go c =
    omega (arith, begun_go c.begin.result c.args.exchange c.args.self.now.windows.recv c.begin.new.self (sym (ap is_some c.in-None.ensures.stream)) c.begin.ensures.ok c.begin.ensures.err)
