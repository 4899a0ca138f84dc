use Rattle.std.proofs.Common.{ap, arith}
use Rattle.wire_state.proofs.Credits.{credit_drops}
use Rattle.wire_state.proofs.conn.Conn.leave.Goals as goal
use Rattle.wire_state.specs.Progress.{conn_go, credit_go}

pub returns-then-not-done-clause-go : goal.returns-then-not-done-clause-go
unfolding conn_go
returns-then-not-done-clause-go c =
    let e = ap credit_go c.dropped.ensures.drops in
    omega (arith, e, credit_drops c.args.exchange c.at_most_held-left.result c.leave_stream-was_open.new.self.windows.recv c.at_most_held-left.ensures.sound c.at_most_held-left.ensures.held, c.leave_stream-was_open.ensures.go)

pub returns-clause-go : goal.returns-clause-go
unfolding conn_go
returns-clause-go c =
    let e = ap credit_go c.dropped.ensures.drops in
    omega (arith, e, credit_drops c.args.exchange c.at_most_held-left.result c.leave_stream-was_open.new.self.windows.recv c.at_most_held-left.ensures.sound c.at_most_held-left.ensures.held, c.leave_stream-was_open.ensures.go)
