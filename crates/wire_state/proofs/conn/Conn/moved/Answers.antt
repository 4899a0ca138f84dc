use Rattle.std.proofs.Common.{ap, arith}
use Rattle.std.specs.Prelude.{min}
use Rattle.wire_state.proofs.Credits.{credit_moves}
use Rattle.wire_state.specs.Progress.{conn_go, credit_go}
use Rattle.wire_state.proofs.conn.Conn.moved.Goals as goal
use Rattle.wire_windows.specs.RecvWindows.{held_at}

pub returns-clause-go : goal.returns-clause-go
unfolding conn_go
returns-clause-go c =
    let e = ap credit_go c.owe-due.ensures.moves in
    omega (arith, e, credit_moves c.args.exchange (min c.args.n (held_at c.args.exchange c.args.self.now.windows.recv)) c.args.self.now.windows.recv c.owe-due.ensures.before (omega arith), c.due_where.ensures.go)
