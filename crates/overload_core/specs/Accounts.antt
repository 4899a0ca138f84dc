-- The exchanges by memory class, and which is reset next.
use Rattle.std.specs.Prelude.{ℕ, zero, suc, ◌+◌, ◌*◌, ◌/◌, ◌==◌, not, cond, min, Option, None, Some, List, [], ◌∷◌, ◌++◌, map, filter, take, reverse}
use Rattle.std.specs.List.{flat_map, list_any}

-- the power of two at which class 1 starts, and the exchanges of the classes 1 to 8, each in the order in which they came into it
pub record Accounts : Type 0 where
  pub start : ℕ
  pub classes : List (List ℕ)

-- the number of the exchange's class, where the first list is the k-th class, and 0 where it is in none
unfoldable pub class_from : ℕ → ℕ → List (List ℕ) → ℕ
class_from k e [] = 0
class_from k e (l ∷ ls) = cond (list_any (λ x. x == e) l) k (class_from (k + 1) e ls)

-- the exchange's class, 0 where it is in no list
abbrev pub class_in : ℕ → List (List ℕ) → ℕ
class_in e classes = class_from 1 e classes

-- the classes without the exchange
abbrev pub without : ℕ → List (List ℕ) → List (List ℕ)
without e classes = map (filter (λ x. not (x == e))) classes

-- the lists, with the exchange as the last of the k-th, counted from 0
unfoldable pub appended : ℕ → ℕ → List (List ℕ) → List (List ℕ)
appended k e [] = []
appended zero e (l ∷ ls) = (l ++ e ∷ []) ∷ ls
appended (suc k) e (l ∷ ls) = l ∷ appended k e ls

-- the exchange comes last in the class; class 0 has no list
abbrev pub entered : ℕ → ℕ → List (List ℕ) → List (List ℕ)
entered zero e classes = classes
entered (suc k) e classes = appended k e classes

-- the classes once the exchange is in this class: where it was there already it keeps its place
abbrev pub in_class : ℕ → ℕ → List (List ℕ) → List (List ℕ)
in_class k e classes = cond (class_in e classes == k) classes (entered k e (without e classes))

-- how many of the greatest classes a state clears
abbrev pub cleared : ℕ → ℕ
cleared state = cond (state == 0) 0 (min (8 * state / 1000000 + 1) 8)

-- the exchanges that a state clears, those of greater classes first, and of one class in the order in which they came into it
abbrev pub reset_order : ℕ → List (List ℕ) → List ℕ
reset_order state classes = flat_map (λ l. l) (take (cleared state) (reverse classes))

abbrev pub first_of : List ℕ → Option ℕ
first_of [] = None
first_of (e ∷ es) = Some e

-- the exchange that is reset next
abbrev pub next_reset : ℕ → List (List ℕ) → Option ℕ
next_reset state classes = first_of (reset_order state classes)
