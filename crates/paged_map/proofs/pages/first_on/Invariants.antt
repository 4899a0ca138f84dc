use Rattle.number_set.specs.NumberSet.{first}
use Rattle.paged_map.proofs.pages.first_on.Given as goal
use Rattle.paged_map.specs.Pages.{entries_on}
use Rattle.std.specs.Map.{keys_of}
use Rattle.std.specs.Prelude.{length, ◌≡◌}

abbrev pub invariant-loop-page : goal.invariant-loop-page
invariant-loop-page g l = first (keys_of (entries_on l.rest)) ≡ first (keys_of (entries_on l.fn.pages))

abbrev pub decreases-loop-page : goal.decreases-loop-page
decreases-loop-page g l = length l.rest
