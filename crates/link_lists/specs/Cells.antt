-- The values behind the pointers, as the proofs see them.
use Rattle.std.specs.Prelude.{◌≡◌, cond, List, [], ◌∷◌, Option, None, Some, MatchOption}
use denote.RawPtr.{Ptr}
use Rattle.link_lists.specs.Places.{same_ptr}

-- where a value lies, the handle that frees it, and the value
abbrev pub Cell : Type 0 → Type 0 → Type 0
Cell A V = Ptr × (A × V)

module _ {A V : Type 0} where
  abbrev pub cell : Ptr → A → V → Cell A V
  cell p a v = (p, (a, v))

  -- the handle and the value at p
  unfoldable pub find : Ptr → List (Cell A V) → Option (A × V)
  find p [] = None
  find p (c ∷ cs) = cond (same_ptr p c.0) (Some c.1) (find p cs)

  -- the cells, with w as the value of the one at p
  unfoldable pub write : Ptr → V → List (Cell A V) → List (Cell A V)
  write p w [] = []
  write p w (c ∷ cs) = cond (same_ptr p c.0) ((c.0, (c.1.0, w)) ∷ cs) (c ∷ write p w cs)

  -- the cells without the one at p
  unfoldable pub erase : Ptr → List (Cell A V) → List (Cell A V)
  erase p [] = []
  erase p (c ∷ cs) = cond (same_ptr p c.0) cs (c ∷ erase p cs)

  -- a value lies at p, and P holds of its handle and it
  abbrev pub IsIn : Ptr → List (Cell A V) → (A → V → Type 0) → Type 0
  IsIn p cs P = MatchOption (find p cs) ⊥ (λ c. P c.0 c.1)

  abbrev pub IsFree : Ptr → List (Cell A V) → Type 0
  IsFree p cs = find p cs ≡ None
