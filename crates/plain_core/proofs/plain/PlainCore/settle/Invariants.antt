use Rattle.plain_core.specs.Measure.{to_go}
use Rattle.plain_core.specs.Runs.{Keeps}
use Rattle.plain_core.proofs.plain.PlainCore.settle.Given as goal

abbrev pub invariant-loop-task : goal.invariant-loop-task
invariant-loop-task l = record { kept : Keeps l.fn.self l.fn.notes l.self l.notes }

abbrev pub decreases-loop-task : goal.decreases-loop-task
decreases-loop-task l = to_go l.self
