use Rattle.std.proofs.Common.{ap, arith}
use Rattle.wire_state.proofs.Credits.{credit_ends}
use Rattle.wire_state.specs.Progress.{conn_go, credit_go}
use Rattle.wire_state.proofs.conn.Conn.peer_ended.Goals as goal

pub returns-clause-go : goal.returns-clause-go
unfolding conn_go
returns-clause-go c =
    let e = ap credit_go c.ended.ensures.ends in
    omega (arith, e, credit_ends c.args.exchange c.args.self.now.windows.recv, c.stream_ended.ensures.go)
