use Rattle.flow_gate.proofs.Closing.{none_stays, recv_closed}
use Rattle.flow_gate.proofs.buffers.Buffers.close_recv.Goals as goal
use Rattle.std.proofs.Common.{sym, ◌∙◌}

pub returns-then-not-is_empty : goal.returns-then-not-is_empty
returns-then-not-is_empty c = rw (← c.self.view_is) (recv_closed c.self.inside.writes.entries c.self.inside.recvs c.self.inside.stages.entries c.self.inside.sends c.args.flow
    c.close_unwatched.new.gates c.close_unwatched.ensures)

pub returns-else-not-is_empty : goal.returns-else-not-is_empty
returns-else-not-is_empty c = rw (← c.self.view_is) (recv_closed c.self.inside.writes.entries c.self.inside.recvs c.self.inside.stages.entries c.self.inside.sends c.args.flow
    c.self.inside.recvs (none_stays c.args.flow c.self.inside.recvs (sym c.is_empty.ensures ∙ c.if-not-is_empty.false)))
