use Rattle.flow_notes.specs.declared.notes.Note.{Note}
use Rattle.proxy_config.specs.declared.config.Config.{Config}
use Rattle.std.specs.Prelude.{List, None, Option, length, ℕ}
use Rattle.wire_turns.proofs.sweeps.sweep.Given as goal
use Rattle.wire_state.specs.Noting.{Appends}
use Rattle.wire_state.specs.Sound.{IsSound}
use Rattle.wire_state.specs.Ways.{WayHistory}
use Rattle.wire_state.specs.Worlds.{Told}

abbrev pub invariant-loop-exchange : goal.invariant-loop-exchange
invariant-loop-exchange l = record { sound : IsSound l.core; notes : Appends l.fn.notes l.notes; octets : (k : Config) (t : Option ℕ) (h : WayHistory) (g : ℕ → List ℕ) (start : List Note) → Told k t None h g start l.fn.core l.fn.notes → Told k t None h g start l.core l.notes }

abbrev pub decreases-loop-exchange : goal.decreases-loop-exchange
decreases-loop-exchange l = length l.core.flows.exchanges.doomed
