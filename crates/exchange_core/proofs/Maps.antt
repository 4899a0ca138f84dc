-- The look-ups of the map of exchanges, and what is seen of it.
use Rattle.exchange_core.specs.Exchange.{seen_at}
use Rattle.exchange_core.specs.Exchanges.{exchange_at}
use Rattle.exchange_core.specs.View.{exchanges_of, stored}
use Rattle.exchange_core.specs.declared.exchanges.Exchanges.TheInside.{Inside}
use Rattle.std.proofs.Common.{ap, arith, inl, inr, refl, sym, ◌∙◌}
use Rattle.std.proofs.lemmas.Bool.{cases_Bool}
use Rattle.std.proofs.lemmas.Bool.Decides.{nat_tests}
use Rattle.std.proofs.lemmas.Map.Made.{lookup-map_values}
use Rattle.std.proofs.lemmas.Option.{same_Some}
use Rattle.std.specs.BTreeMap.{is_at}
use Rattle.std.specs.Map.{lookup, set_value}
use Rattle.std.specs.Ordering.{nat_cmp}
use Rattle.std.specs.Prelude.{Bool, List, Option, Some, [], cond, map, nat_eq, option_map, ℕ, ◌∷◌, ◌≡◌}

pub eq_by_number : (x y : ℕ) → is_at (nat_cmp x) y ≡ nat_eq x y
eq_by_number x y = grind (arith, nat_tests)

module _ {X : Type 0} where
  -- what the map finds at a number
  pub lookup_number : (es : List (ℕ × X)) (x : ℕ) → lookup (is_at (nat_cmp x)) es ≡ lookup (nat_eq x) es
  lookup_number es x = λ i. lookup (λ y. eq_by_number x y i) es

  -- at each number new has what old has, but at x
  abbrev pub WritesAt : ℕ → Option X → List (ℕ × X) → List (ℕ × X) → Type 0
  WritesAt x w old new = (y : ℕ) → lookup (nat_eq y) new ≡ cond (nat_eq x y) w (lookup (nat_eq y) old)

  pub writes_number : (x : ℕ) (w : Option X) (old new : List (ℕ × X)) →
      ((y : ℕ) → lookup (is_at (nat_cmp y)) new ≡ cond (is_at (nat_cmp x) y) w (lookup (is_at (nat_cmp y)) old)) → WritesAt x w old new
  writes_number x w old new updates y = sym (lookup_number new y) ∙ updates y ∙ (λ i. cond (eq_by_number x y i) w (lookup_number old y i))

-- a value written that is seen as the one before
pub seen_same : {X Y : Type 0} (g : X → Y) (test : ℕ → Bool) (es : List (ℕ × X)) (v w : X) → Some v ≡ lookup test es → g w ≡ g v →
    map {B = ℕ × Y} (λ e. (e.0, g e.1)) (set_value test es w) ≡ map (λ e. (e.0, g e.1)) es
seen_same g test [] v w is same = refl
seen_same {X} {Y} g test (e ∷ es) v w is same = elim (cases_Bool (test e.0)) [
  | inl here ↦
      let value : v ≡ e.1 = same_Some v e.1 (cc) in
      ap (λ t. map {B = ℕ × Y} (λ d. (d.0, g d.1)) (cond t ((e.0, w) ∷ es) (e ∷ set_value test es w))) here
      ∙ ap (λ y. (e.0, y) ∷ map {B = ℕ × Y} (λ d. (d.0, g d.1)) es) (cc)
  | inr other ↦
      ap (λ t. map {B = ℕ × Y} (λ d. (d.0, g d.1)) (cond t ((e.0, w) ∷ es) (e ∷ set_value test es w))) other
      ∙ ap (λ ys. (e.0, g e.1) ∷ ys) (seen_same g test es v w (cc) same)
]

-- ---- what is seen
pub stored_at : (c : Inside) (x : ℕ) → exchange_at (stored c) x ≡ lookup (nat_eq x) c.live.entries
unfolding exchange_at
stored_at c x = refl

pub seen_of : (c : Inside) (x : ℕ) → exchange_at (exchanges_of c) x ≡ option_map (seen_at c.ticked) (lookup (nat_eq x) c.live.entries)
unfolding exchange_at
seen_of c x = lookup-map_values (seen_at c.ticked) (nat_eq x) c.live.entries
