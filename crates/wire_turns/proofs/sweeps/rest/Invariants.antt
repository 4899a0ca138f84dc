use Rattle.std.specs.Prelude.{length}
use Rattle.wire_turns.proofs.sweeps.rest.Given as goal
use Rattle.wire_state.specs.Sound.{IsSound}
use Rattle.wire_state.specs.Worlds.{Keeps}

abbrev pub invariant-loop-exchange : goal.invariant-loop-exchange
invariant-loop-exchange l = record { sound : IsSound l.core; octets : Keeps l.fn.core l.core }

abbrev pub decreases-loop-exchange : goal.decreases-loop-exchange
decreases-loop-exchange l = length l.core.load.touched

abbrev pub invariant-loop-conn : goal.invariant-loop-conn
invariant-loop-conn l = record { sound : IsSound l.core; octets : Keeps l.fn.core l.core }

abbrev pub decreases-loop-conn : goal.decreases-loop-conn
decreases-loop-conn l = length l.core.stirred.conns.items
