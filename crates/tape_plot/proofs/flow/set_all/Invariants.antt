use Rattle.std.specs.Prelude.{length, ◌-◌, ◌≡◌, ◌≤◌}
use Rattle.tape_plot.specs.Flows.{ShownTo, lanes_of}
use Rattle.tape_plot.proofs.flow.set_all.Given as goal

abbrev pub invariant-loop-i : goal.invariant-loop-i
invariant-loop-i l = record {
  shown : ShownTo (lanes_of l.fn.places.items) l.held.levels.items l.clock (lanes_of l.places.items) l.i;
  long : length l.places.items ≡ length l.fn.places.items;
  within : l.i ≤ length l.places.items;
}

abbrev pub decreases-loop-i : goal.decreases-loop-i
decreases-loop-i l = length l.places.items - l.i
