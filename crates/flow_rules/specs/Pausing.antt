-- The buffers that pause a flow.
use Rattle.flow_rules.specs.declared.ids.BufferId.{BufferId}
use Rattle.flow_rules.specs.declared.ids.BufferId.TheVariants.{Recv, Stage, Send, Write}
use Rattle.flow_rules.specs.declared.ids.FlowId.{FlowId}
use Rattle.std.specs.Prelude.{◌≡◌, ◌≤◌}

-- a write buffer, or a stage or the send buffer of this same flow; stages are counted from 1
abbrev pub CanPause : FlowId → BufferId → Type 0
CanPause flow (Recv other) = ⊥
CanPause flow (Stage other i) = (other ≡ flow) × (1 ≤ i)
CanPause flow (Send other) = other ≡ flow
CanPause flow (Write conn) = Unit {0}
