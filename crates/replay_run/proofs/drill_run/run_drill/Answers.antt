use Rattle.replay_run.proofs.DrillRuns.{drill_fits}
use Rattle.replay_run.proofs.drill_run.run_drill.Goals as goal

pub new-requires : goal.new-requires
new-requires c = drill_fits
