-- Memory classes.
use Rattle.std.specs.Prelude.{ℕ, ◌+◌, ◌-◌, ◌^◌, ◌<◌, ◌≤◌}

-- the class of so many octets: 0 below 2^start, then one class for each doubling, and 8 for all the rest
pub record IsClassOf (start bytes class : ℕ) : Type 0 where
  pub most : class ≤ 8
  pub below : class < 8 → bytes < 2 ^ (start + class)
  pub at_least : 0 < class → 2 ^ (start + class - 1) ≤ bytes
