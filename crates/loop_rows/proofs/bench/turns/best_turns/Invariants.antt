use Rattle.loop_rows.specs.Workers.{MayRun}
use Rattle.loop_rows.proofs.bench.turns.best_turns.Given as goal
use Rattle.mem_ports.specs.Memory.{seen_of}

abbrev pub invariant-loop-round : goal.invariant-loop-round
invariant-loop-round g l = MayRun l.core l.names l.stage.desk l.held (seen_of l.stage.wires)
