use Rattle.thread_bench.proofs.relay_turns.run_rounds.Given as goal
use Rattle.relay_ports.specs.Memory.{seen_of}
use Rattle.relay_work.specs.Belonging.{Belongs}

abbrev pub invariant-loop-round : goal.invariant-loop-round
invariant-loop-round g l = record {
  alone : Belongs l.alone.names l.alone.relay (seen_of l.alone.taps);
  crowded : Belongs l.crowded.names l.crowded.relay (seen_of l.crowded.taps);
}
