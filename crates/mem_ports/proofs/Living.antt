-- Connections that come and go.
use Rattle.mem_ports.proofs.Tests.{at_eq, here, is_greater, same_is}
use Rattle.mem_ports.specs.Memory.{AreBelow}
use Rattle.std.proofs.Common.{ap, arith, inl, inr, refl, sym, ◌∙◌, ◌⊎◌}
use Rattle.std.proofs.lemmas.Bool.{false≢true}
use Rattle.std.specs.BTreeMap.{is_at}
use Rattle.std.specs.BTreeSet.{insert_key}
use Rattle.std.specs.List.{list_any}
use Rattle.std.specs.Ordering.{match_ordering, nat_cmp}
use Rattle.std.specs.Prelude.{Bool, List, [], cond, false, length, nat_eq, not, suc, true, ℕ, ◌+◌, ◌++◌, ◌||◌, ◌∷◌, ◌≡◌}
use Rattle.std.specs.Set.{remove_key}
use Rattle.worker_ports.specs.Wires.{without}

-- ---- tests over lists
pub or_right : (a b : Bool) → b ≡ true → (a || b) ≡ true
or_right true b h = refl
or_right false b h = h

or_left : (a b : Bool) → a ≡ true → (a || b) ≡ true
or_left true b h = refl
or_left false b h = absurd (false≢true h)

neither_left : (a b : Bool) → (a || b) ≡ false → a ≡ false
neither_left true b h = absurd (false≢true (sym h))
neither_left false b h = refl

neither_right : (a b : Bool) → (a || b) ≡ false → b ≡ false
neither_right true b h = absurd (false≢true (sym h))
neither_right false b h = h

pub any_at : (n : ℕ) (xs : List ℕ) → list_any (is_at (nat_cmp n)) xs ≡ list_any (nat_eq n) xs
any_at n [] = refl
any_at n (x ∷ xs) = ap (λ b. b || list_any (is_at (nat_cmp n)) xs) (at_eq n x) ∙ ap (λ b. nat_eq n x || b) (any_at n xs)

-- ---- one comes, above all
pub insert_behind : (xs : List ℕ) (n : ℕ) → AreBelow n xs → insert_key nat_cmp xs n ≡ xs ++ n ∷ []
insert_behind [] n below = refl
insert_behind (x ∷ xs) n below =
    ap (λ o. match_ordering o (n ∷ x ∷ xs) (x ∷ xs) (x ∷ insert_key nat_cmp xs n)) (is_greater n x (below x (or_left _ _ (here x))))
    ∙ ap (λ ys. x ∷ ys) (insert_behind xs n (λ c there. below c (or_right _ _ there)))

-- ---- one goes
absent_is : (n : ℕ) (xs : List ℕ) → list_any (nat_eq n) xs ≡ false → without n xs ≡ xs
absent_is n [] none = refl
absent_is n (x ∷ xs) none =
    ap (λ b. cond (not b) (x ∷ without n xs) (without n xs)) (neither_left _ _ none)
    ∙ ap (λ ys. x ∷ ys) (absent_is n xs (neither_right _ _ none))

-- what is left of a number and those behind it, by whether it is the one that goes
abbrev left_of : Bool → ℕ → ℕ → List ℕ → List ℕ
left_of b n x xs = cond b xs (x ∷ remove_key (is_at (nat_cmp n)) xs)

abbrev kept_of : Bool → ℕ → ℕ → List ℕ → List ℕ
kept_of b n x xs = cond (not b) (x ∷ without n xs) (without n xs)

abbrev IsRemoved : ℕ → List ℕ → Type 0
IsRemoved n xs = list_any (nat_eq n) (remove_key (is_at (nat_cmp n)) xs) ≡ false → remove_key (is_at (nat_cmp n)) xs ≡ without n xs

removed_here : (n x : ℕ) (xs : List ℕ) → list_any (nat_eq n) (left_of true n x xs) ≡ false → left_of true n x xs ≡ kept_of true n x xs
removed_here n x xs none = sym (absent_is n xs none)

removed_behind : (n x : ℕ) (xs : List ℕ) → IsRemoved n xs → list_any (nat_eq n) (left_of false n x xs) ≡ false → left_of false n x xs ≡ kept_of false n x xs
removed_behind n x xs behind none = ap (λ ys. x ∷ ys) (behind (neither_right _ _ none))

removed_by : (n x : ℕ) (xs : List ℕ) → IsRemoved n xs → (b : Bool) → list_any (nat_eq n) (left_of b n x xs) ≡ false → left_of b n x xs ≡ kept_of b n x xs
removed_by n x xs behind true none = removed_here n x xs none
removed_by n x xs behind false none = removed_behind n x xs behind none

removed_at : (n x : ℕ) (xs : List ℕ) → IsRemoved n xs → (t : Bool) → t ≡ nat_eq n x → list_any (nat_eq n) (left_of t n x xs) ≡ false → left_of t n x xs ≡ kept_of (nat_eq n x) n x xs
removed_at n x xs behind t e none = removed_by n x xs behind t none ∙ ap (λ b. kept_of b n x xs) e

pub removed_is : (n : ℕ) (xs : List ℕ) → IsRemoved n xs
removed_is n [] none = refl
removed_is n (x ∷ xs) none = removed_at n x xs (removed_is n xs) (is_at (nat_cmp n) x) (at_eq n x) none

pub removed_keys : (n : ℕ) (xs ys : List ℕ) → ys ≡ remove_key (is_at (nat_cmp n)) xs → list_any (is_at (nat_cmp n)) ys ≡ false → ys ≡ without n xs
removed_keys n xs ys is none = is ∙ removed_is n xs (sym (ap (λ ks. list_any (nat_eq n) ks) is) ∙ (sym (any_at n ys) ∙ none))

-- one that isn't there leaves them as they were
pub unchanged_keys : (n : ℕ) (xs : List ℕ) → false ≡ list_any (nat_eq n) xs → without n xs ≡ xs
unchanged_keys n xs none = absent_is n xs (sym none)

-- ---- all below a number
or_cases : (a b : Bool) → (a || b) ≡ true → (a ≡ true) ⊎ (b ≡ true)
or_cases true b h = inl refl
or_cases false b h = inr h

any_cases : (d x : ℕ) (xs : List ℕ) → list_any (nat_eq d) (x ∷ xs) ≡ true → (nat_eq d x ≡ true) ⊎ (list_any (nat_eq d) xs ≡ true)
any_cases d x xs h = or_cases (nat_eq d x) (list_any (nat_eq d) xs) h

any_here : (d x : ℕ) (xs : List ℕ) → nat_eq d x ≡ true → list_any (nat_eq d) (x ∷ xs) ≡ true
any_here d x xs h = or_left (nat_eq d x) (list_any (nat_eq d) xs) h

any_behind : (d x : ℕ) (xs : List ℕ) → list_any (nat_eq d) xs ≡ true → list_any (nat_eq d) (x ∷ xs) ≡ true
any_behind d x xs h = or_right (nat_eq d x) (list_any (nat_eq d) xs) h

in_behind : (xs : List ℕ) (c d : ℕ) → list_any (nat_eq d) (xs ++ c ∷ []) ≡ true → (list_any (nat_eq d) xs ≡ true) ⊎ (d ≡ c)
in_behind [] c d there = elim (any_cases d c [] there) [ inl e ↦ inr (same_is d c e) | inr e ↦ absurd (false≢true e) ]
in_behind (x ∷ xs) c d there = elim (any_cases d x (xs ++ c ∷ []) there) [
  | inl e ↦ inl (any_here d x xs e)
  | inr e ↦ elim (in_behind xs c d e) [ inl f ↦ inl (any_behind d x xs f) | inr f ↦ inr f ]
]

pub below_behind : (xs : List ℕ) (n : ℕ) → AreBelow n xs → AreBelow (suc n) (xs ++ n ∷ [])
below_behind xs n below d there = elim (in_behind xs n d there) [ inl e ↦ omega (arith, below d e) | inr e ↦ omega (arith, e) ]

pub length_behind : (xs : List ℕ) (n : ℕ) → length (xs ++ n ∷ []) ≡ length xs + 1
length_behind [] n = refl
length_behind (x ∷ xs) n = omega (arith, length_behind xs n)

without_step : (b : Bool) (xs : List ℕ) (c d x : ℕ) → (list_any (nat_eq d) (without c xs) ≡ true → list_any (nat_eq d) xs ≡ true) → list_any (nat_eq d) (cond (not b) (x ∷ without c xs) (without c xs)) ≡ true → list_any (nat_eq d) (x ∷ xs) ≡ true
without_step true xs c d x behind h = any_behind d x xs (behind h)
without_step false xs c d x behind h = elim (any_cases d x (without c xs) h) [ inl e ↦ any_here d x xs e | inr e ↦ any_behind d x xs (behind e) ]

in_without : (xs : List ℕ) (c d : ℕ) → list_any (nat_eq d) (without c xs) ≡ true → list_any (nat_eq d) xs ≡ true
in_without [] c d there = there
in_without (x ∷ xs) c d there = without_step (nat_eq c x) xs c d x (in_without xs c d) there

pub below_without : (xs : List ℕ) (n c : ℕ) → AreBelow n xs → AreBelow n (without c xs)
below_without xs n c below d there = below d (in_without xs c d there)
