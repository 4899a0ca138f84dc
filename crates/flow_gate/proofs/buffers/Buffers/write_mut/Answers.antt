use Rattle.flow_gate.proofs.ByBuffer.{read, write_written}
use Rattle.flow_gate.proofs.buffers.Buffers.write_mut.Goals as goal
use Rattle.flow_gate.specs.Named.{all_of}
use Rattle.flow_rules.specs.declared.ids.BufferId.TheVariants.{Write}
use Rattle.std.proofs.Common.{ap, refl, sym, ◌∙◌}

pub returns : goal.returns
returns c = rw (← c.self.view_is) (
  (
    refl,
    λ w. write_written c.self.inside.writes.entries c.self.inside.recvs c.self.inside.stages.entries c.self.inside.sends w c.args.conn _ (c.get_mut.follows.holds w).0,
    ap (λ m. all_of m.entries c.self.inside.recvs c.self.inside.stages.entries c.self.inside.sends) c.get_mut.follows.holds-at-none,
  ),
  record { writes_back = tt; value = c.get_mut.ensures.value ∙ sym (read (Write c.args.conn) c.self.inside.writes.entries c.self.inside.recvs c.self.inside.stages.entries c.self.inside.sends) },
)
