use Rattle.std.proofs.Common.{◌≡◌, ◌++◌, List, length}
use Rattle.flow_notes.specs.declared.events.Event.{Event}
use Rattle.replay_run.specs.DrillEvents.{drill}
use Rattle.replay_run.specs.Drill.{DrillIs, rest_of}
use Rattle.replay_run.proofs.drill.drill_events.Given as goal

abbrev pub invariant-loop-events : goal.invariant-loop-events
invariant-loop-events l = record {
  left : (later : List Event) × DrillIs l.drill later × (drill l.n ≡ l.events ++ later);
}

abbrev pub decreases-loop-events : goal.decreases-loop-events
decreases-loop-events l = length (rest_of l.drill.streams l.drill.next)
