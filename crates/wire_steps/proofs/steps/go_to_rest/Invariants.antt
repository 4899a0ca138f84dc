use Rattle.flow_notes.specs.declared.notes.Note.{Note}
use Rattle.proxy_config.specs.declared.config.Config.{Config}
use Rattle.std.specs.Prelude.{List, None, Option, ℕ}
use Rattle.wire_state.specs.Noting.{Appends}
use Rattle.wire_state.specs.Progress.{to_go}
use Rattle.wire_state.specs.Sound.{IsSound}
use Rattle.wire_state.specs.Ways.{WayHistory}
use Rattle.wire_state.specs.Worlds.{Told}
use Rattle.wire_steps.proofs.steps.go_to_rest.Given as goal

abbrev pub invariant-loop : goal.invariant-loop
invariant-loop l = record { sound : IsSound l.core; notes : Appends l.fn.notes l.notes; octets : (k : Config) (t : Option ℕ) (h : WayHistory) (g : ℕ → List ℕ) (start : List Note) → Told k t None h g start l.fn.core l.fn.notes → Told k t None h g start l.core l.notes }

abbrev pub decreases-loop : goal.decreases-loop
decreases-loop l = to_go l.core
