-- Lists of nodes, each with a name and a value.
use Rattle.std.specs.Prelude.{ℕ, zero, suc, Bool, true, false, cond, ◌||◌, IsTrue, Option, None, Some, List, [], ◌∷◌, ◌++◌}
use denote.RawPtr.{Ptr}
use Rattle.link_lists.specs.Places.{same_ptr}

-- what names a node: where it lies
abbrev pub NodeId : Type 0
NodeId = Ptr

-- the name is in the list of names
unfoldable pub contains_id : NodeId → List NodeId → Bool
contains_id p [] = false
contains_id p (q ∷ qs) = cond (same_ptr p q) true (contains_id p qs)

-- the names without the first that is p
unfoldable pub without_id : NodeId → List NodeId → List NodeId
without_id p [] = []
without_id p (q ∷ qs) = cond (same_ptr p q) qs (q ∷ without_id p qs)

module _ {T : Type 0} where
  -- the list has a node p
  unfoldable pub has : NodeId → List (NodeId × T) → Bool
  has p [] = false
  has p (n ∷ ns) = cond (same_ptr p n.0) true (has p ns)

  -- the list without its node p
  unfoldable pub pull : NodeId → List (NodeId × T) → List (NodeId × T)
  pull p [] = []
  pull p (n ∷ ns) = cond (same_ptr p n.0) ns (n ∷ pull p ns)

  -- the value of the list's node p
  unfoldable pub value_in : NodeId → List (NodeId × T) → Option T
  value_in p [] = None
  value_in p (n ∷ ns) = cond (same_ptr p n.0) (Some n.1) (value_in p ns)

  -- the first node
  abbrev pub head_of : List (NodeId × T) → Option (NodeId × T)
  head_of [] = None
  head_of (n ∷ ns) = Some n

  -- some list has a node p
  unfoldable pub has_node : NodeId → List (List (NodeId × T)) → Bool
  has_node p [] = false
  has_node p (l ∷ ls) = cond (has p l) true (has_node p ls)

  -- the lists without the node p
  unfoldable pub pull_from : NodeId → List (List (NodeId × T)) → List (List (NodeId × T))
  pull_from p [] = []
  pull_from p (l ∷ ls) = cond (has p l) (pull p l ∷ ls) (l ∷ pull_from p ls)

  -- the value of the node p
  unfoldable pub node_value : NodeId → List (List (NodeId × T)) → Option T
  node_value p [] = None
  node_value p (l ∷ ls) = cond (has p l) (value_in p l) (node_value p ls)

  -- the lists with n as the last node of the k-th
  unfoldable pub push_at : ℕ → NodeId × T → List (List (NodeId × T)) → List (List (NodeId × T))
  push_at k n [] = []
  push_at zero n (l ∷ ls) = (l ++ n ∷ []) ∷ ls
  push_at (suc k) n (l ∷ ls) = l ∷ push_at k n ls

  -- the first node of the k-th list
  unfoldable pub front_of : ℕ → List (List (NodeId × T)) → Option (NodeId × T)
  front_of k [] = None
  front_of zero (l ∷ ls) = head_of l
  front_of (suc k) (l ∷ ls) = front_of k ls

-- the lists, and the names of the nodes that were taken from a front and aren't given back yet
pub record NodeLists (T : Type 0) : Type 0 where
  pub lists : List (List (NodeId × T))
  pub retired : List NodeId

-- the node is in the lists, or was retired by them
abbrev pub IsKnown : {T : Type 0} → NodeId → NodeLists T → Type 0
IsKnown p s = IsTrue (has_node p s.lists || contains_id p s.retired)
