use Rattle.shared_state.specs.States.{IsSame}
use Rattle.loop_rows.proofs.stage.publish_all.Given as goal

abbrev pub invariant-loop-pressures : goal.invariant-loop-pressures
invariant-loop-pressures g l = IsSame l.fn.publisher l.publisher
