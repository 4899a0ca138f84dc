use Rattle.std.proofs.Common.{◌≡◌, ◌≤◌, ◌-◌, ℕ, length}
use Rattle.wire_summary.specs.Places.{emptied_to}
use Rattle.wire_summary.proofs.places.FlowPlaces.empty.Given as goal

abbrev pub invariant-loop-level : goal.invariant-loop-level
invariant-loop-level l = record {
  emptied : l.self.levels.items ≡ emptied_to l.place l.fn.self.levels.items;
  limits : l.self.limits ≡ l.fn.self.limits;
  within : l.place ≤ length l.self.levels.items;
}

abbrev pub decreases-loop-level : goal.decreases-loop-level
decreases-loop-level l = length l.self.levels.items - l.place
