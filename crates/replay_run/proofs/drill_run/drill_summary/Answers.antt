-- The counts of a drill stand in its summary.
use Rattle.replay_run.proofs.DrillRuns.{drill_spelled}
use Rattle.replay_run.proofs.drill_run.drill_summary.Goals as goal

pub returns : goal.returns
returns c = drill_spelled c.args.streams _ _ _ c.in_ok-tally.ensures c.new-text.ensures c.in_ok-put_short.ensures
