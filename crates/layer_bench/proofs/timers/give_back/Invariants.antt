use Rattle.std.specs.VecDeque.{deque_len}
use Rattle.scaled_timer.specs.Timing.{AreHeld}
use Rattle.layer_bench.proofs.timers.give_back.Given as goal

abbrev pub invariant-loop-timers : goal.invariant-loop-timers
invariant-loop-timers g l = AreHeld l.held.items l.timers

abbrev pub decreases-loop-timers : goal.decreases-loop-timers
decreases-loop-timers g l = deque_len l.held
