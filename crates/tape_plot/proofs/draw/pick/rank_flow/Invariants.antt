use Rattle.std.specs.Prelude.{drop, length, ◌-◌, ◌≡◌, ◌≤◌}
use Rattle.tape_plot.specs.Filled.{of_flow, of_places}
use Rattle.tape_plot.specs.Ranking.{kept_of, ranked_in}
use Rattle.tape_plot.proofs.draw.pick.rank_flow.Given as goal

abbrev pub invariant-loop-i : goal.invariant-loop-i
invariant-loop-i l = record {
  put : kept_of (of_places l.limits l.id (length l.flow.places.items) l.i (drop l.i l.flow.places.items)) (ranked_in l.highest) ≡ kept_of (of_flow l.limits l.id l.flow) (ranked_in l.fn.highest);
  within : l.i ≤ l.count;
}

abbrev pub decreases-loop-i : goal.decreases-loop-i
decreases-loop-i l = l.count - l.i
