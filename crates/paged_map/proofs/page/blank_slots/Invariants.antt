use Rattle.paged_map.proofs.page.blank_slots.Given as goal
use Rattle.paged_map.specs.Pages.{width}
use Rattle.std.specs.Prelude.{count_by, is_some, length, ◌-◌, ◌≡◌, ◌≤◌}

abbrev pub invariant-loop-slots : goal.invariant-loop-slots
invariant-loop-slots g l = record {
  blank : count_by is_some l.slots.items ≡ 0;
  most : length l.slots.items ≤ width;
}

abbrev pub decreases-loop-slots : goal.decreases-loop-slots
decreases-loop-slots g l = width - length l.slots.items
