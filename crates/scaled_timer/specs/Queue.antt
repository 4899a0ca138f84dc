-- A queue of fronts.
use Rattle.std.specs.Prelude.{ℕ, ◌<◌, Some, List, ◌∷◌}
use Rattle.std.specs.List.{AllByRecursion}
use Rattle.std.specs.List.Sorted.{IsPermutation}
use Rattle.std.specs.Ordering.{nat_cmp, ordering_then}
use Rattle.std.specs.declared.cmp.Ordering.{Ordering}
use Rattle.std.specs.declared.cmp.Reverse.{Reverse}
use Rattle.scaled_timer.specs.declared.fronts.Front.{Front}
use Rattle.scaled_timer.specs.Fronts.{NoLater}

-- the fronts, and for how many more there is room
pub record Queued : Type 0 where
  pub fronts : List Front
  pub spare : ℕ

-- how two fronts compare in the heap, where the greatest is on top
abbrev pub latest_first : Reverse Front → Reverse Front → Ordering
latest_first x y = ordering_then (nat_cmp y.0.due x.0.due) (ordering_then (nat_cmp y.0.age x.0.age) (nat_cmp y.0.kind x.0.kind))

-- the front was taken out, fires no later than any, and left room
pub record TakesFirst (f : Front) (old new : Queued) : Type 0 where
  pub taken : IsPermutation old.fronts (f ∷ new.fronts)
  pub first : AllByRecursion (λ g. NoLater (Some f) (Some g)) old.fronts
  pub room : 0 < new.spare
