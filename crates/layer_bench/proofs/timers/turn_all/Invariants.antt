use Rattle.std.proofs.Common.{◌≡◌, ◌≤◌, ◌+◌}
use Rattle.scaled_timer.specs.Timing.{AreHeld}
use Rattle.layer_bench.proofs.timers.turn_all.Given as goal

abbrev pub invariant-loop-i : goal.invariant-loop-i
invariant-loop-i g l = record {
  held : AreHeld l.held.items l.timers;
  kinds : l.timers.kinds ≡ l.initial.timers.kinds;
  latest : l.timers.latest ≤ l.from + l.i;
}
