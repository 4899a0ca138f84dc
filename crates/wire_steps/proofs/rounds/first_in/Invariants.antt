use Rattle.std.specs.Prelude.{◌-◌, ◌^◌, ◌≡◌, ◌≤◌}
use Rattle.wire_state.specs.Progress.{to_go}
use Rattle.wire_state.specs.Sound.{IsSound}
use Rattle.wire_state.specs.Worlds.{Keeps}
use Rattle.wire_steps.proofs.rounds.first_in.Given as goal

abbrev pub invariant-loop-conn : goal.invariant-loop-conn
invariant-loop-conn l = record { sound : IsSound l.core; go : to_go l.core ≤ to_go l.fn.core; rest : l.core ≡ record l.fn.core { conns = l.core.conns }; octets : Keeps l.fn.core l.core }

abbrev pub decreases-loop-conn : goal.decreases-loop-conn
decreases-loop-conn l = 2 ^ 32 - l.from
