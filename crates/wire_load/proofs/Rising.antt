-- The numbers of a set rise.
use Rattle.std.proofs.Common.{ℕ, ◌<◌, List}
use Rattle.std.specs.List.{AllPairs}
use Rattle.std.specs.List.Sorted.{IsStrictlySortedBy}
use Rattle.std.specs.Ordering.{nat_cmp}
use Rattle.std.proofs.lemmas.List.Kept.{AllPairs-from_increasing}
use Rattle.std.proofs.lemmas.Map.Keys.{IsStrictlyIncreasing-from_sorted}

pub rising : (xs : List ℕ) → IsStrictlySortedBy nat_cmp xs → AllPairs (λ x y. x < y) xs
rising xs h = AllPairs-from_increasing xs (IsStrictlyIncreasing-from_sorted xs h)
