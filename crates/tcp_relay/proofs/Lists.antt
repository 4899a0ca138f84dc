-- Which numbers a list has, and that they rise.
use Rattle.tcp_relay.proofs.Tests.{and_left, and_right, by_case, differs_above, differs_below, not_both, not_true, number_is, or_none_left, or_none_right, same_number}
use Rattle.relay_laws.specs.Sound.{Rises}
use Rattle.std.proofs.Common.{ap, arith, lt_trans, refl, subst, sym, ◌∙◌}
use Rattle.std.proofs.lemmas.Bool.Decides.{nat_tests}
use Rattle.std.proofs.lemmas.List.Folds.{list_any-append}
use Rattle.std.proofs.lemmas.Map.Views.{any-filter_same}
use Rattle.std.specs.BTreeMap.{is_at}
use Rattle.std.specs.BTreeSet.{insert_key}
use Rattle.std.specs.List.{AllByRecursion}
use Rattle.std.specs.Ordering.{match_ordering, nat_cmp}
use Rattle.std.specs.Prelude.{Bool, List, [], cond, false, filter, nat_lt, not, true, ℕ, ◌&&◌, ◌++◌, ◌<◌, ◌==◌, ◌||◌, ◌∷◌, ◌≡◌}
use Rattle.std.specs.Set.{remove_key}
use Rattle.std.specs.declared.cmp.Ordering.TheVariants.{Equal, Greater, Less}
use Rattle.tape_laws.specs.Dispatches.{has}

or_false : (b : Bool) → (b || false) ≡ b
or_false true = refl
or_false false = refl

pub has_more : (xs : List ℕ) (x y : ℕ) → has (xs ++ x ∷ []) y ≡ (has xs y || (x == y))
has_more xs x y = list_any-append (λ z. z == y) xs (x ∷ []) ∙ ap (λ b. has xs y || b) (or_false (x == y))

pub has_without : (xs : List ℕ) (x y : ℕ) → has (filter (λ z. not (z == x)) xs) y ≡ (not (y == x) && has xs y)
has_without xs x y = any-filter_same (λ z. z == y) (λ z. not (z == x)) (not (y == x)) (λ z t. ap (λ w. not (w == x)) (number_is z y t)) xs

-- what is left without x was there, and isn't x
pub has_left : (xs : List ℕ) (x y : ℕ) → has (filter (λ z. not (z == x)) xs) y ≡ true → has xs y ≡ true
has_left xs x y e = and_right (not (y == x)) (has xs y) (sym (has_without xs x y) ∙ e)

pub has_other : (xs : List ℕ) (x y : ℕ) → has (filter (λ z. not (z == x)) xs) y ≡ true → (y == x) ≡ false
has_other xs x y e = not_true (y == x) (and_left (not (y == x)) (has xs y) (sym (has_without xs x y) ∙ e))

pub has_was : (xs : List ℕ) (x y : ℕ) → has (xs ++ x ∷ []) y ≡ true → (x == y) ≡ false → has xs y ≡ true
has_was xs x y e d = by_case (has xs y) (λ t. t) (λ f. not_both (has xs y || (x == y)) (sym (has_more xs x y) ∙ e) (ap (λ b. b || (x == y)) f ∙ d))

module _ (P : ℕ → Type 0) where
  all_if : (b : Bool) (x : ℕ) (ys : List ℕ) → P x → AllByRecursion P ys → AllByRecursion P (cond b (x ∷ ys) ys)
  all_if true x ys p a = (p, a)
  all_if false x ys p a = a

  pub all_filter : (p : ℕ → Bool) (xs : List ℕ) → AllByRecursion P xs → AllByRecursion P (filter p xs)
  all_filter p [] a = tt
  all_filter p (x ∷ xs) a = all_if (p x) x (filter p xs) a.0 (all_filter p xs a.1)

  pub all_more : (xs : List ℕ) (x : ℕ) → AllByRecursion P xs → P x → AllByRecursion P (xs ++ x ∷ [])
  all_more [] x a p = (p, tt)
  all_more (y ∷ xs) x a p = (a.0, all_more xs x a.1 p)

  pub all_at : (xs : List ℕ) (y : ℕ) → AllByRecursion P xs → has xs y ≡ true → P y
  all_at [] y a e = cc
  all_at (x ∷ xs) y a e = by_case (x == y) (λ s. subst P (number_is x y s) a.0) (λ d. all_at xs y a.1 (sym (ap (λ b. b || has xs y) d) ∙ e))

rises_if : (b : Bool) (x : ℕ) (ys : List ℕ) → AllByRecursion (λ d. x < d) ys → Rises ys → Rises (cond b (x ∷ ys) ys)
rises_if true x ys a r = (a, r)
rises_if false x ys a r = r

pub rises_filter : (p : ℕ → Bool) (xs : List ℕ) → Rises xs → Rises (filter p xs)
rises_filter p [] r = tt
rises_filter p (x ∷ xs) r = rises_if (p x) x (filter p xs) (all_filter (λ d. x < d) p xs r.0) (rises_filter p xs r.1)

pub rises_more : (xs : List ℕ) (c : ℕ) → Rises xs → AllByRecursion (λ d. d < c) xs → Rises (xs ++ c ∷ [])
rises_more [] c r a = (tt, tt)
rises_more (x ∷ xs) c r a = (all_more (λ d. x < d) xs c r.0 a.0, rises_more xs c r.1 a.1)

-- what is above each of a list isn't in it
pub not_in : (xs : List ℕ) (c : ℕ) → AllByRecursion (λ d. d < c) xs → has xs c ≡ false
not_in [] c a = refl
not_in (x ∷ xs) c a = ap (λ b. b || has xs c) (differs_below x c a.0) ∙ not_in xs c a.1

-- nothing goes where x isn't
pub filter_none : (xs : List ℕ) (x : ℕ) → AllByRecursion (λ d. (d == x) ≡ false) xs → filter (λ z. not (z == x)) xs ≡ xs
filter_none [] x a = refl
filter_none (y ∷ xs) x a =
    ap (λ b. cond (not b) (y ∷ filter (λ z. not (z == x)) xs) (filter (λ z. not (z == x)) xs)) a.0 ∙ ap (λ ys. y ∷ ys) (filter_none xs x a.1)

pub all_other : (xs : List ℕ) (x : ℕ) → has xs x ≡ false → AllByRecursion (λ d. (d == x) ≡ false) xs
all_other [] x e = tt
all_other (y ∷ xs) x e = (or_none_left (y == x) (has xs x) e, all_other xs x (or_none_right (y == x) (has xs x) e))

all_above : (xs : List ℕ) (x : ℕ) → AllByRecursion (λ d. x < d) xs → AllByRecursion (λ d. (d == x) ≡ false) xs
all_above [] x a = tt
all_above (y ∷ xs) x a = (differs_above x y a.0, all_above xs x a.1)

-- the first of a rising list goes
pub filter_first : (x : ℕ) (xs : List ℕ) → Rises (x ∷ xs) → filter (λ z. not (z == x)) (x ∷ xs) ≡ xs
filter_first x xs r =
    ap (λ b. cond (not b) (x ∷ filter (λ z. not (z == x)) xs) (filter (λ z. not (z == x)) xs)) (same_number x) ∙ filter_none xs x (all_above xs x r.0)

-- ---- the keys of a set
is_greater : (x c : ℕ) → x < c → nat_cmp c x ≡ Greater
is_greater x c l =
    let below : nat_lt c x ≡ false = grind (arith, nat_tests) in
    let other : (c == x) ≡ false = grind (arith, nat_tests) in
    λ i. cond (below i) Less (cond (other i) Equal Greater)

pub insert_last : (xs : List ℕ) (c : ℕ) → AllByRecursion (λ d. d < c) xs → insert_key nat_cmp xs c ≡ xs ++ c ∷ []
insert_last [] c a = refl
insert_last (x ∷ xs) c a =
    ap (λ o. match_ordering o (c ∷ x ∷ xs) (x ∷ xs) (x ∷ insert_key nat_cmp xs c)) (is_greater x c a.0) ∙ ap (λ ys. x ∷ ys) (insert_last xs c a.1)

at_is : (c x : ℕ) → is_at (nat_cmp c) x ≡ (x == c)
at_is c x = grind (arith, nat_tests)

pub remove_rest : (xs : List ℕ) (c : ℕ) → Rises xs → remove_key (is_at (nat_cmp c)) xs ≡ filter (λ z. not (z == c)) xs
remove_rest [] c r = refl
remove_rest (x ∷ xs) c r = by_case (x == c)
    (λ e. ap (λ b. cond b xs (x ∷ remove_key (is_at (nat_cmp c)) xs)) (at_is c x ∙ e)
    ∙ sym (filter_none xs c (all_above xs c (subst (λ y. AllByRecursion (λ d. y < d) xs) (number_is x c e) r.0)))
    ∙ sym (ap (λ b. cond (not b) (x ∷ filter (λ z. not (z == c)) xs) (filter (λ z. not (z == c)) xs)) e))
    (λ e. ap (λ b. cond b xs (x ∷ remove_key (is_at (nat_cmp c)) xs)) (at_is c x ∙ e)
    ∙ ap (λ ys. x ∷ ys) (remove_rest xs c r.1)
    ∙ sym (ap (λ b. cond (not b) (x ∷ filter (λ z. not (z == c)) xs) (filter (λ z. not (z == c)) xs)) e))
