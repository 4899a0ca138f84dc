-- Rings of nodes, by their edges.
use Rattle.std.specs.Prelude.{◌≡◌, List, [], ◌∷◌, map}
use Rattle.std.specs.List.{AllByRecursion, IsDistinct}
use denote.RawPtr.{Ptr}
use Rattle.link_lists.specs.Places.{same_ptr}
use Rattle.link_lists.specs.Cells.{Cell, IsIn}
use Rattle.link_lists.specs.declared.member.Member.{Member}

-- from one node to the one after it
abbrev pub Pair : Type 0
Pair = Ptr × Ptr

module _ {A T : Type 0} where
  -- both ends know of the edge
  abbrev pub Edge : List (Cell A (Member T)) → Pair → Type 0
  Edge cs e = IsIn e.0 cs (λ _ n. n.next.ptr ≡ e.1) × IsIn e.1 cs (λ _ n. n.prev.ptr ≡ e.0)

  -- each node has one edge out and one in
  pub record Tied (cs : List (Cell A (Member T))) (es : List Pair) : Type 0 where
    pub edges : AllByRecursion (Edge cs) es
    pub out : IsDistinct same_ptr (map (λ e. e.0) es)
    pub into : IsDistinct same_ptr (map (λ e. e.1) es)

-- the edges from a through ps to e
unfoldable pub edges_of : Ptr → List Ptr → Ptr → List Pair
edges_of a [] e = (a, e) ∷ []
edges_of a (p ∷ ps) e = (a, p) ∷ edges_of p ps e
