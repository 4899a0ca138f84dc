use Rattle.std.proofs.Common.{ap, arith}
use Rattle.wire_state.proofs.Credits.{credit_first}
use Rattle.wire_state.specs.Progress.{conn_go, credit_go}
use Rattle.wire_state.proofs.conn.Conn.grant_first.Goals as goal

pub returns-clause-go : goal.returns-clause-go
unfolding conn_go
returns-clause-go c =
    let e = ap credit_go c.grant_first.ensures.grants in
    omega (arith, e, credit_first c.args.self.now.windows.recv, c.grant_first.ensures.granted)
