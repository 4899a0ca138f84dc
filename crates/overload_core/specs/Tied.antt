-- How the classes stand in linked lists, with a map from each exchange to its node.
use Rattle.std.specs.Prelude.{◌≡◌, ℕ, ◌+◌, ◌≤◌, nat_eq, Option, List, [], ◌∷◌, ◌++◌, map, length}
use Rattle.std.specs.Map.{lookup}
use Rattle.std.specs.List.{IsDistinct}
use Rattle.link_lists.specs.Places.{same_ptr}
use Rattle.link_lists.specs.Lists.{NodeId}
use Rattle.overload_core.specs.declared.classes.Standing.{Standing}

-- an exchange, and where it stands
abbrev pub Placed : Type 0
Placed = ℕ × Standing

-- the exchange of a node of the k-th class
abbrev pub placed : ℕ → NodeId × ℕ → Placed
placed k n = (n.1, record { node = n.0; class = k })

-- the exchanges of the lists, of which the first is the k-th class
unfoldable pub all_placed : ℕ → List (List (NodeId × ℕ)) → List Placed
all_placed k [] = []
all_placed k (l ∷ ls) = map (placed k) l ++ all_placed (k + 1) ls

-- the exchanges of each list
abbrev pub classes_of : List (List (NodeId × ℕ)) → List (List ℕ)
classes_of = map (map (λ n. n.1))

-- each exchange of the lists is found where it stands, and no other; none stands twice, nor has one node two exchanges
pub record Tied (find : ℕ → Option Standing) (ls : List (List (NodeId × ℕ))) : Type 0 where
  pub same : (e : ℕ) → find e ≡ lookup (λ x. nat_eq x e) (all_placed 1 ls)
  pub apart : IsDistinct nat_eq (map (λ a. a.0) (all_placed 1 ls))
  pub named : IsDistinct same_ptr (map (λ a. a.1.node) (all_placed 1 ls))

-- the lists are eight, of which the first starts at this power of two
pub record Kept (start : ℕ) (find : ℕ → Option Standing) (ls : List (List (NodeId × ℕ))) : Type 0 where
  pub low : start ≤ 40
  pub eight : length ls ≡ 8
  pub tied : Tied find ls
