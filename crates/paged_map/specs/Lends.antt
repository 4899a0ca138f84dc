-- What a map and a page end as, where a `&mut` to one of their values is returned.
use Rattle.paged_map.specs.PagedMap.{PagedMap, WritesThrough}
use Rattle.paged_map.specs.contracts.map.PagedMap.{the_row as map_row}
use Rattle.paged_map.specs.contracts.page.Page.{the_row as page_row}
use Rattle.paged_map.specs.declared.key.Key as key
use Rattle.std.specs.Borrow.{Fml, Lends, LendsSo, MutBor, RattleType}
use Rattle.std.specs.Prelude.{List, Option, Some, slice_set, ℕ, ◌≡◌}

module _ (X : RattleType) where
  -- once the borrow r ends, the slot has the last value written through r
  abbrev pub LendsSlot : MutBor (ℕ × List (Option X.Denot)) → ℕ → MutBor X.Denot → Fml
  LendsSlot s slot r = Lends (page_row X) X s r (λ w. (s.now.0, slice_set s.now.1 slot (Some w)))

module _ (K X : RattleType) (g : key.Ghosts K.Denot) where
  -- once the borrow r ends, the number has the last value written through r; where it has none, nothing has changed
  abbrev pub LendsValue : MutBor (PagedMap X.Denot) → ℕ → Option (MutBor X.Denot) → Fml
  LendsValue s number r = LendsSo (map_row K X g) X s r (λ n w. WritesThrough number s.now w n) (λ n. n ≡ s.now)
