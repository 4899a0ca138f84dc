use Rattle.flow_gate.proofs.Leaving.{left_so_far}
use Rattle.flow_gate.proofs.gates.leave_each.Given as goal
use Rattle.flow_gate.specs.Parts.{AreWatches, buffer_at}
use Rattle.flow_rules.specs.declared.ids.BufferId.{BufferId}
use Rattle.flow_rules.specs.declared.ids.FlowId.{FlowId}
use Rattle.std.specs.Prelude.{take, ◌≡◌}

-- the flow left the lines of the watches so far
abbrev pub invariant-loop-watch : goal.invariant-loop-watch
invariant-loop-watch l = (f : FlowId) → AreWatches f l.watches l.initial.buffers → (b : BufferId) →
    buffer_at l.buffers b ≡ left_so_far f (take l.watch-index l.watches) b (buffer_at l.initial.buffers b)
