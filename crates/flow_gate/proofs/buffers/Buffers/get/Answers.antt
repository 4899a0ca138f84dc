use Rattle.flow_gate.proofs.ByBuffer.{read}
use Rattle.flow_gate.proofs.buffers.Buffers.get.Goals as goal
use Rattle.flow_rules.specs.declared.ids.BufferId.TheVariants.{Recv, Send, Stage, Write}
use Rattle.std.proofs.Common.{sym, ◌∙◌}

pub returns-in-Write : goal.returns-in-Write
returns-in-Write c = rw (c.in-Write.is, ← c.self.view_is) (record { value = c.get.ensures.value ∙ sym (read (Write c.in-Write.conn) c.self.inside.writes.entries c.self.inside.recvs c.self.inside.stages.entries c.self.inside.sends) })

pub returns-in-Recv : goal.returns-in-Recv
returns-in-Recv c = rw (c.in-Recv.is, ← c.self.view_is) (record { value = c.get-in-Recv.ensures.value ∙ sym (read (Recv c.in-Recv.flow) c.self.inside.writes.entries c.self.inside.recvs c.self.inside.stages.entries c.self.inside.sends) })

pub returns-in-Stage : goal.returns-in-Stage
returns-in-Stage c = rw (c.in-Stage.is, ← c.self.view_is) (record { value = c.get-in-Stage.ensures.value ∙ sym (read (Stage c.in-Stage.flow c.in-Stage.stage) c.self.inside.writes.entries c.self.inside.recvs c.self.inside.stages.entries c.self.inside.sends) })

pub returns-in-Send : goal.returns-in-Send
returns-in-Send c = rw (c.in-Send.is, ← c.self.view_is) (record { value = c.get-in-Send.ensures.value ∙ sym (read (Send c.in-Send.flow) c.self.inside.writes.entries c.self.inside.recvs c.self.inside.stages.entries c.self.inside.sends) })
