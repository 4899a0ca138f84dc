use Rattle.flow_gate.proofs.Closing.{is_done}
use Rattle.flow_gate.proofs.gates.close_stages.Given as goal
use Rattle.flow_gate.specs.Parts.{buffer_at, kept}
use Rattle.flow_rules.specs.declared.ids.BufferId.{BufferId}
use Rattle.std.specs.Option.{option_map_or}
use Rattle.std.specs.Prelude.{if◌then◌else◌, ◌+◌, ◌-◌, ◌^◌, ◌≡◌}

-- the stages so far that nobody watches are closed
abbrev pub invariant-stages : goal.invariant-stages
invariant-stages l = (b : BufferId) →
    buffer_at l.buffers b ≡ (if is_done l.flow l.after b then kept (buffer_at l.initial.buffers b) else buffer_at l.initial.buffers b)

abbrev pub decreases-stages : goal.decreases-stages
decreases-stages l = option_map_or (λ stage. 2 ^ 32 - stage) l.after (2 ^ 32 + 1)
