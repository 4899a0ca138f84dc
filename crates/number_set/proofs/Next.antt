-- The first number above another: it is there, and none that is there lies between.
use Rattle.number_set.proofs.Sorted.{Above, has_first, none_upto}
use Rattle.number_set.specs.NumberSet.{Rises, first_above, has}
use Rattle.std.proofs.Common.{ap, arith, inl, inr, refl, subst, sym, ◌∙◌}
use Rattle.std.proofs.lemmas.Bool.{cases_Bool, false≢true}
use Rattle.std.proofs.lemmas.Bool.Decides.{nat_tests}
use Rattle.std.specs.List.{find}
use Rattle.std.specs.List.Sorted.{IsStrictlySortedBy}
use Rattle.std.specs.Prelude.{Bool, IfSome, IsSomeAnd, List, None, Option, Some, [], false, if◌then◌else◌, nat_eq, nat_lt, true, ℕ, ◌<◌, ◌||◌, ◌∷◌, ◌≡◌, ◌≤◌}

above_is : (m n : ℕ) → nat_lt m n ≡ true → m < n
above_is m n h = grind (arith, nat_tests)

upto_is : (m n : ℕ) → nat_lt m n ≡ false → n ≤ m
upto_is m n h = grind (arith, nat_tests)

-- it is there
abbrev IsThere : ℕ → List ℕ → Option ℕ → Type 0
IsThere after xs o = IfSome o (λ x. (after < x) × (has xs x ≡ true))

later : (after x : ℕ) (xs : List ℕ) (o : Option ℕ) → IsThere after xs o → IsThere after (x ∷ xs) o
later after x xs None is = tt
later after x xs (Some y) is = (is.0, ap (λ b. nat_eq y x || b) is.1 ∙ or_true (nat_eq y x))
  where
    or_true : (b : Bool) → (b || true) ≡ true
    or_true true = refl
    or_true false = refl

pub next_found : (xs : List ℕ) (after : ℕ) → IfSome (first_above after xs) (λ x. (after < x) × (has xs x ≡ true))
next_found [] after = tt
next_found (x ∷ xs) after = elim (cases_Bool (nat_lt after x)) [
  | inl so ↦ subst (λ t. IsThere after (x ∷ xs) (if t then Some x else find (nat_lt after) xs)) (sym so) (above_is after x so, has_first x xs)
  | inr not_so ↦ subst (λ t. IsThere after (x ∷ xs) (if t then Some x else find (nat_lt after) xs)) (sym not_so) (later after x xs (find (nat_lt after) xs) (next_found xs after))
]

-- a number of the list is its first, or one of the rest
first_least : (x y : ℕ) (xs : List ℕ) → Above x xs → has (x ∷ xs) y ≡ true → x ≤ y
first_least x y xs above there = elim (cases_Bool (nat_lt y x)) [
  | inl so ↦ absurd (false≢true (sym (none (above_is y x so)) ∙ there))
  | inr not_so ↦ upto_is y x not_so
]
  where
    apart : y < x → nat_eq y x ≡ false
    apart less = grind (arith, nat_tests)

    none : y < x → has (x ∷ xs) y ≡ false
    none less = ap (λ b. b || has xs y) (apart less) ∙ none_upto y x xs (omega (arith, less)) above

rest_has : (x y : ℕ) (xs : List ℕ) → x < y → has (x ∷ xs) y ≡ true → has xs y ≡ true
rest_has x y xs less there =
    let apart : nat_eq y x ≡ false = grind (arith, nat_tests) in
    sym (ap (λ b. b || has xs y) apart) ∙ there

pub next_least : (xs : List ℕ) (after : ℕ) → Rises xs → (y : ℕ) → after < y → has xs y ≡ true → IsSomeAnd (first_above after xs) (λ x. x ≤ y)
unfolding IsStrictlySortedBy
next_least [] after rises y more there = absurd (false≢true there)
next_least (x ∷ xs) after rises y more there = elim (cases_Bool (nat_lt after x)) [
  | inl so ↦ subst (λ t. IsSomeAnd (if t then Some x else find (nat_lt after) xs) (λ z. z ≤ y)) (sym so) (first_least x y xs rises.0 there)
  | inr not_so ↦ subst (λ t. IsSomeAnd (if t then Some x else find (nat_lt after) xs) (λ z. z ≤ y)) (sym not_so)
      (next_least xs after rises.1 y more (rest_has x y xs (omega (arith, upto_is after x not_so, more)) there))
]
