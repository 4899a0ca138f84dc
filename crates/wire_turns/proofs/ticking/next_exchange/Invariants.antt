use Rattle.std.specs.Prelude.{length, ◌≡◌, ◌≤◌}
use Rattle.wire_turns.proofs.ticking.next_exchange.Given as goal
use Rattle.wire_state.specs.Progress.{to_go}
use Rattle.wire_state.specs.Sound.{IsSound}
use Rattle.wire_state.specs.Worlds.{Keeps}

abbrev pub invariant-loop-conn : goal.invariant-loop-conn
invariant-loop-conn l = record { sound : IsSound l.core; go : to_go l.core ≤ to_go l.fn.core; agenda : l.core.agenda ≡ l.fn.core.agenda; octets : Keeps l.fn.core l.core }

abbrev pub decreases-loop-conn : goal.decreases-loop-conn
decreases-loop-conn l = length l.core.stirred.fresh.items
