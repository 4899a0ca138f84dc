use Rattle.std.proofs.Common.{ap, arith}
use Rattle.wire_state.proofs.Credits.{credit_wastes}
use Rattle.wire_state.specs.Progress.{conn_go, credit_go}
use Rattle.wire_state.proofs.conn.Conn.wasted.Goals as goal

pub returns-clause-go : goal.returns-clause-go
unfolding conn_go
returns-clause-go c =
    let e = ap credit_go c.wasted.ensures.wastes in
    omega (arith, e, credit_wastes c.at_most_stray-n.result c.args.self.now.windows.recv c.at_most_stray-n.ensures.sound c.at_most_stray-n.ensures.stray)
