use Rattle.std.specs.Prelude.{length, ◌-◌, ◌≤◌}
use Rattle.tape_plot.proofs.Placing.{IsBehind}
use Rattle.tape_plot.proofs.highest.place_of.Given as goal

abbrev pub invariant-loop-place : goal.invariant-loop-place
invariant-loop-place l = record {
  fits : l.place ≤ length l.ranked;
  behind : IsBehind l.next l.ranked l.place;
}

abbrev pub decreases-loop-place : goal.decreases-loop-place
decreases-loop-place l = length l.ranked - l.place
