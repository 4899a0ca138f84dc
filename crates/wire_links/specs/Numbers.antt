-- Lists of what stands under numbers.
use Rattle.std.specs.BTreeMap.{is_at}
use Rattle.std.specs.List.{filter}
use Rattle.std.specs.Map.{keys_of, lookup, set_value}
use Rattle.std.specs.Option.{option_map_or}
use Rattle.std.specs.Ordering.{nat_cmp}
use Rattle.std.specs.Prelude.{Bool, List, Option, ℕ}

module _ {X : Type 0} where
  -- what stands under the number
  abbrev pub under : ℕ → List (ℕ × X) → Option X
  under n es = lookup (is_at (nat_cmp n)) es

  -- what stands under the number, where something does, is changed by f
  abbrev pub changed : ℕ → (X → X) → List (ℕ × X) → List (ℕ × X)
  changed n f es = option_map_or (λ x. set_value (is_at (nat_cmp n)) es (f x)) (under n es) es

  -- the numbers of those for which it holds
  abbrev pub numbers_where : (ℕ → X → Bool) → List (ℕ × X) → List ℕ
  numbers_where p es = keys_of (filter (λ e. p e.0 e.1) es)
