-- A set of numbers, as the list of them in order, and for how many there is room.
use Rattle.number_set.specs.declared.set.NumberSet.TheInside.{Inside}
use Rattle.std.specs.BTreeMap.{is_at}
use Rattle.std.specs.BTreeSet.{insert_key}
use Rattle.std.specs.List.{find, list_any}
use Rattle.std.specs.List.Sorted.{IsStrictlySortedBy}
use Rattle.std.specs.Ordering.{nat_cmp}
use Rattle.std.specs.Prelude.{Bool, List, Option, if◌then◌else◌, length, nat_eq, nat_lt, slice_get, slice_index, ℕ, ◌<◌, ◌≡◌, ◌≤◌}
use Rattle.std.specs.Set.{remove_key}
use Rattle.std.specs.Vec.{vec_capacity}

-- ---- numbers in order
-- each is greater than those before it
abbrev pub Rises : List ℕ → Type 0
Rises = IsStrictlySortedBy nat_cmp

abbrev pub has : List ℕ → ℕ → Bool
has numbers n = list_any (nat_eq n) numbers

-- the least
abbrev pub first : List ℕ → Option ℕ
first numbers = slice_get numbers 0

-- the first that is greater than another
abbrev pub first_above : ℕ → List ℕ → Option ℕ
first_above n numbers = find (nat_lt n) numbers

-- from now on the number is there, or isn't
abbrev pub marked : ℕ → Bool → List ℕ → List ℕ
marked n is_there numbers = if is_there then insert_key nat_cmp numbers n else remove_key (is_at (nat_cmp n)) numbers

-- a number stands at a place
pub record IsFoundAt (numbers : List ℕ) (n i : ℕ) : Type 0 where
  pub within : i < length numbers
  pub is : slice_index numbers i ≡ n

-- a number isn't there, and would come to a place
pub record IsGapAt (numbers : List ℕ) (n i : ℕ) : Type 0 where
  pub within : i ≤ length numbers
  pub below : (k : ℕ) → k < i → slice_index numbers k < n
  pub above : (k : ℕ) → i ≤ k → k < length numbers → n < slice_index numbers k

-- ---- a set of them
pub record NumberSet : Type 0 where
  pub items : List ℕ
  pub room : ℕ

abbrev pub set_of : Inside → NumberSet
set_of c = record { items = c.items.items; room = vec_capacity c.items }

pub record IsKept (c : Inside) : Type 0 where
  pub order : Rises c.items.items
  pub room : length c.items.items ≤ vec_capacity c.items
