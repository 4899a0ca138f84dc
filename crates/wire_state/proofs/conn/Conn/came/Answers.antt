use Rattle.std.proofs.Common.{ap, arith}
use Rattle.wire_state.proofs.Credits.{credit_counted}
use Rattle.wire_state.specs.Progress.{conn_go, credit_go}
use Rattle.wire_state.proofs.conn.Conn.came.Goals as goal

pub returns-clause-go : goal.returns-clause-go
unfolding conn_go
returns-clause-go c =
    let e = ap credit_go c.came.ensures.counts in
    omega (arith, e, credit_counted c.came.result c.args.exchange c.args.n c.args.self.now.windows.recv)
