use Rattle.relay_ports.specs.Memory.{seen_of}
use Rattle.loop_rows.proofs.relay_show.run.Given as goal
use Rattle.relay_work.specs.Belonging.{Belongs}

abbrev pub invariant-loop-run : goal.invariant-loop-run
invariant-loop-run l = Belongs l.names l.relay (seen_of l.taps)
