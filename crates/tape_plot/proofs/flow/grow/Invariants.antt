use Rattle.std.specs.Prelude.{length, max, ℕ, ◌-◌, ◌≡◌, ◌≤◌}
use Rattle.tape_plot.specs.Flows.{lane_at, lanes_of}
use Rattle.tape_plot.proofs.flow.grow.Given as goal

abbrev pub invariant-loop-places : goal.invariant-loop-places
invariant-loop-places l = record {
  same : (p : ℕ) → lane_at (lanes_of l.places.items) p ≡ lane_at (lanes_of l.fn.places.items) p;
  least : length l.fn.places.items ≤ length l.places.items;
  most : length l.places.items ≤ max (length l.fn.places.items) l.len;
}

abbrev pub decreases-loop-places : goal.decreases-loop-places
decreases-loop-places l = l.len - length l.places.items
