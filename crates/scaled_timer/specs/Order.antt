-- Lists in the order of a number.
use Rattle.std.specs.Prelude.{ℕ, cond, nat_lt, List, [], ◌∷◌}

module _ {X : Type 0} (key : X → ℕ) where
  -- x before the first that is not less than it
  unfoldable pub placed : X → List X → List X
  placed x [] = x ∷ []
  placed x (y ∷ ys) = cond (nat_lt (key y) (key x)) (y ∷ placed x ys) (x ∷ y ∷ ys)

  -- the list in the order of the number; where two are equal, they stay as they stand
  unfoldable pub in_order : List X → List X
  in_order [] = []
  in_order (x ∷ xs) = placed x (in_order xs)
