use Rattle.flow_gate.proofs.ByBuffer.{read, recv_written, send_written, stage_written, write_written}
use Rattle.flow_gate.proofs.buffers.Buffers.get_mut.Goals as goal
use Rattle.flow_gate.specs.Named.{all_of}
use Rattle.flow_rules.specs.declared.ids.BufferId.TheVariants.{Recv, Send, Stage, Write}
use Rattle.std.proofs.Common.{ap, refl, sym, ◌∙◌}

pub returns-in-Write : goal.returns-in-Write
returns-in-Write c = rw (c.in-Write.is, ← c.self.view_is) (
  (
    refl,
    λ w. write_written c.self.inside.writes.entries c.self.inside.recvs c.self.inside.stages.entries c.self.inside.sends w c.in-Write.conn _ (c.get_mut.follows.holds w).0,
    ap (λ m. all_of m.entries c.self.inside.recvs c.self.inside.stages.entries c.self.inside.sends) c.get_mut.follows.holds-at-none,
  ),
  record { writes_back = tt; value = c.get_mut.ensures.value ∙ sym (read (Write c.in-Write.conn) c.self.inside.writes.entries c.self.inside.recvs c.self.inside.stages.entries c.self.inside.sends) },
)

pub returns-in-Recv : goal.returns-in-Recv
returns-in-Recv c = rw (c.in-Recv.is, ← c.self.view_is) (
  (
    refl,
    λ w. recv_written c.self.inside.writes.entries c.self.inside.recvs c.self.inside.stages.entries c.self.inside.sends w c.in-Recv.flow _ (c.get_mut-in-Recv.follows.holds w).0,
    ap (λ m. all_of c.self.inside.writes.entries m c.self.inside.stages.entries c.self.inside.sends) c.get_mut-in-Recv.follows.holds-at-none,
  ),
  record { writes_back = tt; value = c.get_mut-in-Recv.ensures.value ∙ sym (read (Recv c.in-Recv.flow) c.self.inside.writes.entries c.self.inside.recvs c.self.inside.stages.entries c.self.inside.sends) },
)

pub returns-in-Stage : goal.returns-in-Stage
returns-in-Stage c = rw (c.in-Stage.is, ← c.self.view_is) (
  (
    refl,
    λ w. stage_written c.self.inside.writes.entries c.self.inside.recvs c.self.inside.stages.entries c.self.inside.sends w c.in-Stage.flow c.in-Stage.stage _ (c.get_mut-in-Stage.follows.holds w).0,
    ap (λ m. all_of c.self.inside.writes.entries c.self.inside.recvs m.entries c.self.inside.sends) c.get_mut-in-Stage.follows.holds-at-none,
  ),
  record { writes_back = tt; value = c.get_mut-in-Stage.ensures.value ∙ sym (read (Stage c.in-Stage.flow c.in-Stage.stage) c.self.inside.writes.entries c.self.inside.recvs c.self.inside.stages.entries c.self.inside.sends) },
)

pub returns-in-Send : goal.returns-in-Send
returns-in-Send c = rw (c.in-Send.is, ← c.self.view_is) (
  (
    refl,
    λ w. send_written c.self.inside.writes.entries c.self.inside.recvs c.self.inside.stages.entries c.self.inside.sends w c.in-Send.flow _ (c.get_mut-in-Send.follows.holds w).0,
    ap (λ m. all_of c.self.inside.writes.entries c.self.inside.recvs c.self.inside.stages.entries m) c.get_mut-in-Send.follows.holds-at-none,
  ),
  record { writes_back = tt; value = c.get_mut-in-Send.ensures.value ∙ sym (read (Send c.in-Send.flow) c.self.inside.writes.entries c.self.inside.recvs c.self.inside.stages.entries c.self.inside.sends) },
)
