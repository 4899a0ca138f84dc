use Rattle.flow_gate.proofs.ByBuffer.{read}
use Rattle.flow_gate.proofs.Orders.{stage_cmp}
use Rattle.flow_gate.proofs.Stages.{none_in_empty, stage_at}
use Rattle.flow_gate.proofs.buffers.Buffers.stage_after.Goals as goal
use Rattle.flow_rules.specs.declared.ids.BufferId.TheVariants.{Stage}
use Rattle.std.proofs.Common.{rules, ◌∙◌}
use Rattle.std.specs.BTreeMap.{is_at}
use Rattle.std.specs.Prelude.{length, ◌≡◌}

pub returns-then-is_empty-clause-none : goal.returns-then-is_empty-clause-none
returns-then-is_empty-clause-none c = rw (← c.self.view_is) (λ j later.
    let none : length c.self.inside.stages.entries ≡ 0 = search rules in
    read (Stage c.args.flow j) c.self.inside.writes.entries c.self.inside.recvs c.self.inside.stages.entries c.self.inside.sends
    ∙ none_in_empty (is_at (stage_cmp (stage_at c.args.flow j))) c.self.inside.stages.entries none)
