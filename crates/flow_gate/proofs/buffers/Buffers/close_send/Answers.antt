use Rattle.flow_gate.proofs.Closing.{send_closed}
use Rattle.flow_gate.proofs.buffers.Buffers.close_send.Goals as goal

pub returns : goal.returns
returns c = rw (← c.self.view_is) (send_closed c.self.inside.writes.entries c.self.inside.recvs c.self.inside.stages.entries c.self.inside.sends c.args.flow
    c.close_unwatched.new.gates c.close_unwatched.ensures)
