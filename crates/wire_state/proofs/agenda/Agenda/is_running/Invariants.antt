use Rattle.std.proofs.Common.{◌≡◌, length, reverse}
use Rattle.std.specs.List.{list_any}
use Rattle.wire_state.specs.Agenda.{is_run_of}
use Rattle.wire_state.proofs.agenda.Agenda.is_running.Given as goal

abbrev pub invariant-loop-task : goal.invariant-loop-task
invariant-loop-task l = list_any (is_run_of l.fn.flow) (reverse l.rest) ≡ list_any (is_run_of l.fn.flow) l.fn.self

abbrev pub decreases-loop-task : goal.decreases-loop-task
decreases-loop-task l = length l.rest
