use Rattle.std.proofs.Common.{◌≡◌, ◌≤◌, length}
use Rattle.scaled_timer.specs.Timing.{AreHeld}
use Rattle.layer_tests.proofs.timers.arm_all.Given as goal

abbrev pub invariant-loop-one : goal.invariant-loop-one
invariant-loop-one g l = record {
  held : AreHeld l.held.items l.timers;
  kinds : length l.timers.kinds ≡ 3;
  latest : l.timers.latest ≤ l.last;
  last : l.last ≤ 36;
}
