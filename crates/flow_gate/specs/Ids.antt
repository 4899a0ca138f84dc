-- Flows and buffers by name.
use Rattle.flow_rules.specs.declared.ids.BufferId.{BufferId}
use Rattle.flow_rules.specs.declared.ids.FlowId.{FlowId}
use Rattle.std.specs.Prelude.{Bool, false, if◌then◌else◌, not, ◌&&◌, ◌==◌}
use Rattle.flow_rules.specs.declared.ids.BufferId.TheVariants as buffer

-- the two are one flow
abbrev pub same_flow : FlowId → FlowId → Bool
same_flow f g = (f.exchange == g.exchange) && (if f.back then g.back else not g.back)

-- the two are one buffer
abbrev pub same_buffer : BufferId → BufferId → Bool
same_buffer (buffer.Recv f) (buffer.Recv g) = same_flow f g
same_buffer (buffer.Stage f i) (buffer.Stage g j) = same_flow f g && (i == j)
same_buffer (buffer.Send f) (buffer.Send g) = same_flow f g
same_buffer (buffer.Write c) (buffer.Write d) = c == d
same_buffer _ _ = false

-- the buffer is the flow's own: its receive buffer, one of its stages or its send buffer
abbrev pub is_own : FlowId → BufferId → Bool
is_own f (buffer.Recv g) = same_flow f g
is_own f (buffer.Stage g i) = same_flow f g
is_own f (buffer.Send g) = same_flow f g
is_own f (buffer.Write c) = false
