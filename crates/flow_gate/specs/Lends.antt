-- What values by name end as, where a `&mut` to one of them is returned.
use Rattle.flow_gate.specs.Ids.{same_buffer, same_flow}
use Rattle.flow_gate.specs.Line.{Line}
use Rattle.flow_gate.specs.Named.{ByBuffer, ByFlow, WritesThrough}
use Rattle.flow_gate.specs.contracts.buffers.Buffers.{the_row as buffers_row}
use Rattle.flow_gate.specs.contracts.flow_map.FlowMap.{the_row as flows_row}
use Rattle.flow_gate.specs.contracts.gate.Gate.{the_row as gate_row}
use Rattle.flow_rules.specs.declared.ids.BufferId.{BufferId}
use Rattle.flow_rules.specs.declared.ids.FlowId.{FlowId}
use Rattle.std.specs.Borrow.{Fml, LendsSo, MutBor, RattleType}
use Rattle.std.specs.Prelude.{Option, ◌≡◌}

module _ (X : RattleType) where
  -- once the borrow r ends, the flow has the last value written through r; where it has none, nothing has changed
  abbrev pub LendsFlow : MutBor (ByFlow X.Denot) → FlowId → Option (MutBor X.Denot) → Fml
  LendsFlow s f r = LendsSo (flows_row X) X s r (λ n w. WritesThrough same_flow f w s.now n) (λ n. n ≡ s.now)

-- the same of a buffer
abbrev pub LendsBuffer : MutBor (ByBuffer Line) → BufferId → Option (MutBor Line) → Fml
LendsBuffer s b r = LendsSo buffers_row gate_row s r (λ n w. WritesThrough same_buffer b w s.now n) (λ n. n ≡ s.now)
