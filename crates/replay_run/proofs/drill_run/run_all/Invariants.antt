use Rattle.std.proofs.Common.{length}
use Rattle.replay_run.specs.Drill.{rest_of}
use Rattle.replay_run.specs.ReplayDrill.{Drilled}
use Rattle.replay_run.proofs.drill_run.run_all.Given as goal

abbrev pub invariant-events : goal.invariant-events
invariant-events l = record { stands : Drilled l.streams l.core l.drill l.tally }

abbrev pub decreases-events : goal.decreases-events
decreases-events l = length (rest_of l.drill.streams l.drill.next)
