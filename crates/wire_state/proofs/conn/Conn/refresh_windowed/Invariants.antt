use Rattle.std.specs.Prelude.{◌≡◌, ◌≤◌}
use Rattle.wire_state.proofs.conn.Conn.refresh_windowed.Given as goal
use Rattle.wire_state.specs.Progress.{conn_go}

abbrev pub invariant-loop-place : goal.invariant-loop-place
invariant-loop-place l = record { rest : l.self ≡ record l.fn.self { ready = l.self.ready }; go : conn_go l.self ≤ conn_go l.fn.self }
