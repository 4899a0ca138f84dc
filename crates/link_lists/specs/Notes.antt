-- Rings as the proof remembers them.
use Rattle.std.specs.Prelude.{ℕ, zero, suc, cond, Option, None, Some, List, [], ◌∷◌, ◌++◌, map}
use denote.RawPtr.{Ptr}
use Rattle.link_lists.specs.Lists.{has, pull, node_value}

-- the place of a ring's end, and its nodes in order: where each lies, and its value
abbrev pub Ring : Type 0 → Type 0
Ring T = Ptr × List (Ptr × T)

module _ {T : Type 0} where
  -- the nodes of the rings
  abbrev pub seen : List (Ring T) → List (List (Ptr × T))
  seen = map (λ r. r.1)

  -- the rings with n as the last node of the k-th
  unfoldable pub ring_push : ℕ → Ptr × T → List (Ring T) → List (Ring T)
  ring_push k n [] = []
  ring_push zero n (r ∷ rs) = (r.0, r.1 ++ n ∷ []) ∷ rs
  ring_push (suc k) n (r ∷ rs) = r ∷ ring_push k n rs

  -- the rings without the node at p
  unfoldable pub ring_pull : Ptr → List (Ring T) → List (Ring T)
  ring_pull p [] = []
  ring_pull p (r ∷ rs) = cond (has p r.1) ((r.0, pull p r.1) ∷ rs) (r ∷ ring_pull p rs)

  -- the rings with n as the last node of the k-th, where there is an n
  abbrev pub ring_put : ℕ → Ptr → Option T → List (Ring T) → List (Ring T)
  ring_put k p None rs = rs
  ring_put k p (Some v) rs = ring_push k (p, v) rs

  -- the rings where the node at p has become the last of the k-th
  abbrev pub ring_shift : ℕ → Ptr → List (Ring T) → List (Ring T)
  ring_shift k p rs = ring_put k p (node_value p (seen rs)) (ring_pull p rs)

  -- the rings without the last
  unfoldable pub ring_front : List (Ring T) → List (Ring T)
  ring_front [] = []
  ring_front (r ∷ []) = []
  ring_front (r ∷ s ∷ rs) = r ∷ ring_front (s ∷ rs)
