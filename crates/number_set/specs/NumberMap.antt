-- Values by number, as the list of the numbers with their values in the order of the numbers.
use Rattle.std.specs.BTreeMap.{is_at}
use Rattle.std.specs.List.Sorted.{IsStrictlySortedBy}
use Rattle.std.specs.Map.{keys_of, lookup}
use Rattle.std.specs.Ordering.{nat_cmp}
use Rattle.std.specs.Prelude.{Bool, List, Option, if◌then◌else◌, is_some, length, slice_index, ℕ, ◌+◌, ◌<◌, ◌==◌, ◌≡◌, ◌≤◌}

-- 1 or 0
abbrev pub one_if : Bool → ℕ
one_if b = if b then 1 else 0

module _ {X : Type 0} where
  -- what a number has
  abbrev pub value_of : ℕ → List (ℕ × X) → Option X
  value_of number es = lookup (is_at (nat_cmp number)) es

  -- a number has this from now on, or nothing, and each other one what it had
  pub record Puts (number : ℕ) (value : Option X) (old new : List (ℕ × X)) : Type 0 where
    pub at : (q : ℕ) → value_of q new ≡ (if q == number then value else value_of q old)
    pub len : length new + one_if (is_some (value_of number old)) ≡ length old + one_if (is_some value)

  -- each number is greater than those before it
  abbrev pub IsSorted : List (ℕ × X) → Type 0
  IsSorted es = IsStrictlySortedBy nat_cmp (keys_of es)

  -- so many of the numbers are below another, and no more
  pub record IsBelow (number n : ℕ) (es : List (ℕ × X)) : Type 0 where
    pub within : n ≤ length es
    pub before : (k : ℕ) → k < n → slice_index (keys_of es) k < number
    pub after : (k : ℕ) → n ≤ k → k < length es → number ≤ slice_index (keys_of es) k

  -- a number stands at a place, behind lesser ones
  pub record IsAt (number i : ℕ) (es : List (ℕ × X)) : Type 0 where
    pub within : i < length es
    pub before : (k : ℕ) → k < i → slice_index (keys_of es) k < number
    pub is : slice_index (keys_of es) i ≡ number

  -- a number isn't there, and would come to a place
  pub record IsGap (number i : ℕ) (es : List (ℕ × X)) : Type 0 where
    pub within : i ≤ length es
    pub before : (k : ℕ) → k < i → slice_index (keys_of es) k < number
    pub after : (k : ℕ) → i ≤ k → k < length es → number < slice_index (keys_of es) k
