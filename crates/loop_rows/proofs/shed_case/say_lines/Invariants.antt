use Rattle.loop_rows.proofs.shed_case.say_lines.Given as goal
use Rattle.std.specs.Prelude.{false, ◌≡◌}
use Rattle.worker_core.specs.Sessions.{RestsWire}

abbrev pub invariant-loop-line : goal.invariant-loop-line
invariant-loop-line l = (l.shedder.failed ≡ false) × RestsWire l.core.kind
