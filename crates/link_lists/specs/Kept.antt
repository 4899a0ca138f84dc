-- How the rings stand to the cells.
use Rattle.std.specs.Prelude.{◌≡◌, None, Some, List, [], ◌∷◌, ◌++◌, map, length}
use Rattle.std.specs.List.{AllByRecursion}
use denote.RawPtr.{Ptr}
use Rattle.link_lists.specs.Cells.{Cell, IsIn}
use Rattle.link_lists.specs.Rings.{Pair, Tied, edges_of}
use Rattle.link_lists.specs.Notes.{Ring}
use Rattle.link_lists.specs.declared.member.Member.{Member}
use Rattle.link_lists.specs.declared.heap.Place.{Place}

module _ {T : Type 0} where
  abbrev pub ids : List (Ptr × T) → List Ptr
  ids = map (λ n. n.0)

  -- from each node or end to the one after it
  unfoldable pub edges : List (Ring T) → List Pair
  edges [] = []
  edges (r ∷ rs) = edges_of r.0 (ids r.1) r.0 ++ edges rs

module _ {A T : Type 0} where
  -- the nodes hold their values
  abbrev pub Holds : List (Cell A (Member T)) → List (Ptr × T) → Type 0
  Holds cs = AllByRecursion (λ n. IsIn n.0 cs (λ _ m. m.value ≡ Some n.1))

  -- the ends are those of the rings, both sides of each edge know of it, nodes hold their values, and ends none
  pub record Kept (cs : List (Cell A (Member T))) (ends : List Place) (rs : List (Ring T)) : Type 0 where
    pub ends_are : map (λ (r : Ring T). r.0) rs ≡ map (λ (p : Place). p.ptr) ends
    pub tied : Tied cs (edges rs)
    pub values : AllByRecursion (λ (r : Ring T). Holds cs r.1) rs
    pub bare : AllByRecursion (λ (r : Ring T). IsIn r.0 cs (λ _ m. m.value ≡ None)) rs

  -- and nothing else lies in the heap
  pub record Sound (cs : List (Cell A (Member T))) (ends : List Place) (rs : List (Ring T)) : Type 0 where
    pub kept : Kept cs ends rs
    pub count : length cs ≡ length (edges rs)
