-- Values by number, as the list of the numbers with their values in the order of the numbers.
use Rattle.number_set.specs.NumberMap.{IsSorted}
use Rattle.std.specs.BTreeMap.{is_at}
use Rattle.std.specs.Coded.{Coded, code_by, coded×, coded_list, coded_ℕ}
use Rattle.std.specs.Map.{keys_of, lookup, set_value}
use Rattle.std.specs.Ordering.{nat_cmp}
use Rattle.std.specs.Prelude.{IsSome, List, Option, Some, cond, length, refl, ℕ, ◌≡◌}

pub record PagedMap (X : Type 0) : Type 0 where
  pub entries : List (ℕ × X)

-- it is stored as the list
abbrev pub map_code : {X : Type 0} → Coded X → Coded (PagedMap X)
map_code {X} code = code_by (List (ℕ × X)) (coded_list (coded× coded_ℕ code)) (λ m. m.entries) (λ es. record { entries = es }) (λ _. refl)

module _ {X : Type 0} where
  -- what a number has
  abbrev pub value_at : ℕ → PagedMap X → Option X
  value_at number m = lookup (is_at (nat_cmp number)) m.entries

  -- n has this at a number, or nothing, and at each other one what m has
  abbrev pub Updates : ℕ → PagedMap X → PagedMap X → Option X → Type 0
  Updates number m n w = ((q : ℕ) → value_at q n ≡ cond (is_at (nat_cmp number) q) w (value_at q m)) × (value_at number n ≡ w)

  -- n is m after w was written through what `get_mut` lent for a number
  abbrev pub WritesThrough : ℕ → PagedMap X → X → PagedMap X → Type 0
  WritesThrough number m w n = (n.entries ≡ set_value (is_at (nat_cmp number)) m.entries w) × (keys_of n.entries ≡ keys_of m.entries) × (length n.entries ≡ length m.entries)
      × (IsSome (value_at number m) → Updates number m n (Some w)) × IsSorted n.entries
