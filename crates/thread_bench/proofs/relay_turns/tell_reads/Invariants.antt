use Rattle.thread_bench.proofs.relay_turns.tell_reads.Given as goal
use Rattle.relay_ports.specs.Memory.{seen_of}
use Rattle.std.specs.Prelude.{◌≡◌}

abbrev pub invariant-loop-turn : goal.invariant-loop-turn
invariant-loop-turn l = seen_of l.taps ≡ seen_of l.fn.taps
