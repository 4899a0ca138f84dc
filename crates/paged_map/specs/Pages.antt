-- How the values lie: each page has a slot for each of 16 numbers that stand next to each other.
use Rattle.number_set.specs.NumberMap.{IsSorted}
use Rattle.std.specs.List.{All, AllByRecursion}
use Rattle.std.specs.Map.{keys_of}
use Rattle.std.specs.Prelude.{List, None, Option, Some, [], count_by, is_some, length, ℕ, ◌*◌, ◌+◌, ◌++◌, ◌<◌, ◌^◌, ◌∷◌, ◌≡◌}

-- how many numbers a page is for
abbrev pub width : ℕ
width = 16

-- a 16th of a number
abbrev pub IsIndex : ℕ → Type 0
IsIndex index = index < 2 ^ 60

-- A page is seen as its index, a 16th of each of its numbers, and its slots.
module _ {X : Type 0} where
  -- the values of these slots with their numbers, where the first slot is this number's
  abbrev pub entries_from : ℕ → List (Option X) → List (ℕ × X)
  entries_from number [] = []
  entries_from number (None ∷ slots) = entries_from (number + 1) slots
  entries_from number (Some value ∷ slots) = (number, value) ∷ entries_from (number + 1) slots

  -- the values on all pages
  abbrev pub entries_on : List (ℕ × List (Option X)) → List (ℕ × X)
  entries_on [] = []
  entries_on (page ∷ pages) = entries_from (page.0 * width) page.1 ++ entries_on pages

  -- each number is below another
  abbrev pub AreBelow : ℕ → List (ℕ × X) → Type 0
  AreBelow bound es = All (λ k. k < bound) (keys_of es)

  -- so many slots of a page are used
  pub record IsWhole (index used : ℕ) (slots : List (Option X)) : Type 0 where
    pub small : IsIndex index
    pub counted : used ≡ count_by is_some slots
    pub long : length slots ≡ width

  -- each index is greater than those before it, and each page has its slots
  pub record AreOrdered (pages : List (ℕ × List (Option X))) : Type 0 where
    pub order : IsSorted pages
    pub long : AllByRecursion (λ page. length page.1 ≡ width) pages

  -- and so many values stand on them
  pub record AreKept (len : ℕ) (on : List (ℕ × List (Option X))) : Type 0 where
    pub pages : AreOrdered on
    pub small : len < 2 ^ 63
    pub counted : len ≡ length (entries_on on)
