use Rattle.number_set.specs.NumberSet.{first}
use Rattle.paged_map.proofs.page.Page.first_from.Given as goal
use Rattle.paged_map.specs.Pages.{entries_from, width}
use Rattle.std.specs.Map.{keys_of}
use Rattle.std.specs.Prelude.{drop, ◌*◌, ◌+◌, ◌-◌, ◌≡◌, ◌≤◌}

abbrev pub invariant-loop-slot : goal.invariant-loop-slot
invariant-loop-slot g l = record {
  same : first (keys_of (entries_from (l.fn.self.0 * width + l.slot) (drop l.slot l.fn.self.1))) ≡ first (keys_of (entries_from (l.fn.self.0 * width + l.fn.from) (drop l.fn.from l.fn.self.1)));
  most : l.slot ≤ width;
}

abbrev pub decreases-loop-slot : goal.decreases-loop-slot
decreases-loop-slot g l = width - l.slot
