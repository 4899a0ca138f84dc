-- How the lists stand in the rings: ring 0 keeps the retired nodes, and ring k + 1 is the k-th list.
use Rattle.std.specs.Prelude.{◌≡◌, ℕ, zero, suc, true, false, Option, None, Some, List, [], ◌∷◌, map}
use denote.RawPtr.{Ptr}
use Rattle.link_lists.specs.Lists.{has, has_node, NodeLists}

module _ {T : Type 0} where
  -- no second list has the node p
  unfoldable pub IsLone : Ptr → List (List (Ptr × T)) → Type 0
  IsLone p [] = Unit {0}
  IsLone p (l ∷ ls) = (has p l ≡ true → has_node p ls ≡ false) × IsLone p ls

  -- the lists, the k-th of which has become empty
  unfoldable pub emptied : ℕ → List (List (Ptr × T)) → List (List (Ptr × T))
  emptied k [] = []
  emptied zero (l ∷ ls) = [] ∷ ls
  emptied (suc k) (l ∷ ls) = l ∷ emptied k ls

  -- the nodes that have a value
  unfoldable pub alive : List (Ptr × Option T) → List (Ptr × T)
  alive [] = []
  alive (n ∷ ns) = elim n.1 [ None ↦ alive ns | Some v ↦ (n.0, v) ∷ alive ns ]

  -- what is seen of the rings
  abbrev pub shown : List (List (Ptr × Option T)) → NodeLists T
  shown [] = record { lists = []; retired = [] }
  shown (r ∷ rs) = record { lists = map alive rs; retired = map (λ n. n.0) r }

  -- a list's nodes, and the retired nodes, in their rings
  unfoldable pub living : List (Ptr × T) → List (Ptr × Option T)
  living = map (λ n. (n.0, Some n.1))

  unfoldable pub dead : List Ptr → List (Ptr × Option T)
  dead = map (λ p. (p, None))

  -- the rings of the lists
  abbrev pub stored : NodeLists T → List (List (Ptr × Option T))
  stored s = dead s.retired ∷ map living s.lists
