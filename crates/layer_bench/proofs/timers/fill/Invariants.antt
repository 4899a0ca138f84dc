use Rattle.std.proofs.Common.{◌≡◌, ◌≤◌}
use Rattle.scaled_timer.specs.Timing.{AreHeld}
use Rattle.layer_bench.proofs.timers.fill.Given as goal

abbrev pub invariant-loop-now : goal.invariant-loop-now
invariant-loop-now g l = record {
  held : AreHeld l.held.items l.timers;
  kinds : l.timers.kinds ≡ l.initial.timers.kinds;
  latest : l.timers.latest ≤ l.now;
}
