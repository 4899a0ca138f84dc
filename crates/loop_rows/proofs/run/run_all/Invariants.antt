use Rattle.loop_rows.specs.Workers.{MayRun}
use Rattle.loop_rows.proofs.run.run_all.Given as goal

abbrev pub invariant-loop-run : goal.invariant-loop-run
invariant-loop-run g l = MayRun l.core l.names l.stage.desk l.held (g.W.Wires.seen l.wires)
