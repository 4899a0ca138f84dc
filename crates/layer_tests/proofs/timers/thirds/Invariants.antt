use Rattle.std.proofs.Common.{◌≡◌, ◌≤◌, length}
use Rattle.scaled_timer.specs.Timing.{AreHeld}
use Rattle.layer_tests.proofs.timers.thirds.Given as goal

abbrev pub invariant-loop-id : goal.invariant-loop-id
invariant-loop-id g l = record {
  held : AreHeld l.held.items l.timers;
  kinds : length l.timers.kinds ≡ 1;
  latest : l.timers.latest ≤ l.id;
}

abbrev pub invariant-loop-id-2 : goal.invariant-loop-id-2
invariant-loop-id-2 g l = record { held : AreHeld l.held.items l.timers; latest : l.timers.latest ≤ 10000 }
