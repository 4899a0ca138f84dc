use Rattle.flow_gate.proofs.ByBuffer.{recv_updated, send_updated, stage_updated, write_updated}
use Rattle.flow_gate.proofs.buffers.Buffers.discard.Goals as goal
use Rattle.std.specs.Prelude.{None}

pub returns-in-Write : goal.returns-in-Write
returns-in-Write c = rw (c.in-Write.is, ← c.self.view_is) (write_updated c.self.inside.writes.entries c.self.inside.recvs c.self.inside.stages.entries c.self.inside.sends None c.in-Write.conn c.discard.new.self.entries c.discard.ensures.updates.0)

pub returns-in-Recv : goal.returns-in-Recv
returns-in-Recv c = rw (c.in-Recv.is, ← c.self.view_is) (recv_updated c.self.inside.writes.entries c.self.inside.recvs c.self.inside.stages.entries c.self.inside.sends None c.in-Recv.flow c.discard-in-Recv.new.self c.discard-in-Recv.ensures)

pub returns-in-Stage : goal.returns-in-Stage
returns-in-Stage c = rw (c.in-Stage.is, ← c.self.view_is) (stage_updated c.self.inside.writes.entries c.self.inside.recvs c.self.inside.stages.entries c.self.inside.sends None c.in-Stage.flow c.in-Stage.stage c.remove.new.self.entries c.remove.ensures.updates.0)

pub returns-in-Send : goal.returns-in-Send
returns-in-Send c = rw (c.in-Send.is, ← c.self.view_is) (send_updated c.self.inside.writes.entries c.self.inside.recvs c.self.inside.stages.entries c.self.inside.sends None c.in-Send.flow c.discard-in-Send.new.self c.discard-in-Send.ensures)
