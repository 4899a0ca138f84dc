use Rattle.std.proofs.Common.{ap, arith}
use Rattle.wire_state.proofs.Credits.{credit_grants}
use Rattle.wire_state.specs.Progress.{conn_go, credit_go}
use Rattle.wire_state.proofs.conn.Conn.grant.Goals as goal

pub returns-clause-go : goal.returns-clause-go
unfolding conn_go
returns-clause-go c =
    let e = ap credit_go c.grant.ensures.grants in
    omega (arith, e, credit_grants c.args.exchange c.args.self.now.windows.recv, c.grant.ensures.granted)
