-- Counts and sums over a list.
use Rattle.std.proofs.Common.{ap, arith, inl, inr, refl, sym}
use Rattle.std.proofs.lemmas.Bool.{cases_Bool}
use Rattle.std.proofs.lemmas.List.Sums.{sum_by-cons, sum_by-append}
use Rattle.std.specs.Prelude.{Bool, List, [], cond, count_by, false, if◌then◌else◌, not, sum_by, true, ℕ, ◌&&◌, ◌++◌, ◌+◌, ◌*◌, ◌||◌, ◌∷◌, ◌≡◌, ◌≤◌, ◌<◌}

unit-or : (a b : Bool) → (a ≡ true → b ≡ false) → cond (a || b) 1 0 ≡ cond a 1 0 + cond b 1 0
unit-or true b apart = ap (λ v. 1 + cond v 1 0) (sym (apart refl))
unit-or false b apart = omega arith

unit-and_not : (a b : Bool) → (a ≡ true → b ≡ true) → cond (not a && b) 1 0 + cond a 1 0 ≡ cond b 1 0
unit-and_not true b within = ap (λ v. cond v 1 0) (sym (within refl))
unit-and_not false b within = omega arith

module _ {X : Type 0} where
  pub count-cons : (p : X → Bool) (x : X) (xs : List X) → count_by p (x ∷ xs) ≡ cond (p x) 1 0 + count_by p xs
  count-cons p x xs = sum_by-cons (λ y. cond (p y) 1 0) x xs

  pub count-append : (p : X → Bool) (xs ys : List X) → count_by p (xs ++ ys) ≡ count_by p xs + count_by p ys
  count-append p xs ys = sum_by-append (λ y. cond (p y) 1 0) xs ys

  -- of tests that never pass together, either passes as often as both do
  pub count-or : (p q : X → Bool) → ((x : X) → p x ≡ true → q x ≡ false) → (xs : List X) →
      count_by (λ x. p x || q x) xs ≡ count_by p xs + count_by q xs
  count-or p q apart [] = refl
  count-or p q apart (x ∷ xs) =
      omega (arith, count-cons (λ y. p y || q y) x xs, count-cons p x xs, count-cons q x xs, unit-or (p x) (q x) (apart x), count-or p q apart xs)

  -- where p passes only with q, q passes as often without p as it does with it left out
  pub count-and_not : (p q : X → Bool) → ((x : X) → p x ≡ true → q x ≡ true) → (xs : List X) →
      count_by (λ x. not (p x) && q x) xs + count_by p xs ≡ count_by q xs
  count-and_not p q within [] = refl
  count-and_not p q within (x ∷ xs) =
      omega (arith, count-cons (λ y. not (p y) && q y) x xs, count-cons p x xs, count-cons q x xs, unit-and_not (p x) (q x) (within x), count-and_not p q within xs)

  pub sum-plus : (f g : X → ℕ) (xs : List X) → sum_by (λ x. f x + g x) xs ≡ sum_by f xs + sum_by g xs
  sum-plus f g [] = refl
  sum-plus f g (x ∷ xs) =
      omega (arith, sum_by-cons (λ y. f y + g y) x xs, sum_by-cons f x xs, sum_by-cons g x xs, sum-plus f g xs)

  -- a sum of one term, at the places that pass
  pub sum-times : (p : X → Bool) (k : ℕ) (xs : List X) → sum_by (λ x. if p x then k else 0) xs ≡ count_by p xs * k
  sum-times p k [] = omega arith
  sum-times p k (x ∷ xs) =
      let head : (if p x then k else 0) ≡ cond (p x) 1 0 * k =
      elim (p x) as (λ b. (if b then k else 0) ≡ cond b 1 0 * k) [ true ↦ omega arith | false ↦ omega arith ]
      in let whole : count_by p (x ∷ xs) * k ≡ (cond (p x) 1 0 + count_by p xs) * k = ap (λ n. n * k) (count-cons p x xs)
      in omega (arith, sum_by-cons (λ y. if p y then k else 0) x xs, whole, head, sum-times p k xs)

  -- by a test e of equality, by which each element is itself
  pub sum-congr : (e : X → X → Bool) → ((x : X) → e x x ≡ true) → (f g : X → ℕ) (xs : List X) →
      ((x : X) → 0 < count_by (e x) xs → f x ≡ g x) → sum_by f xs ≡ sum_by g xs
  sum-congr e self f g [] same = refl
  sum-congr e self f g (x ∷ xs) same =
      let here : f x ≡ g x = same x (let one : ◌≡◌ {A = ℕ} (cond (e x x) 1 0) 1 = ap {B = ℕ} (λ b. cond b 1 0) (self x) in omega (arith, count-cons (e x) x xs, one)) in
      let rest = sum-congr e self f g xs (λ y h. same y (omega (arith, count-cons (e y) x xs, h))) in
      omega (arith, sum_by-cons f x xs, sum_by-cons g x xs, here, rest)

  pub count-congr : (e : X → X → Bool) → ((x : X) → e x x ≡ true) → (p q : X → Bool) (xs : List X) →
      ((x : X) → 0 < count_by (e x) xs → p x ≡ q x) → count_by p xs ≡ count_by q xs
  count-congr e self p q xs same = sum-congr e self (λ x. cond (p x) 1 0) (λ x. cond (q x) 1 0) xs (λ x h. ap (λ b. cond b 1 0) (same x h))

  -- a term of a sum, by a test e of equality
  pub sum-member : (e : X → X → Bool) → ((x y : X) → e x y ≡ true → x ≡ y) → (f : X → ℕ) (x : X) (xs : List X) →
      0 < count_by (e x) xs → f x ≤ sum_by f xs
  sum-member e exact f x [] some = omega (arith, some)
  sum-member e exact f x (y ∷ xs) some =
      elim (cases_Bool (e x y)) [
        | inl here ↦ let same : f x ≡ f y = ap f (exact x y here) in omega (arith, same, sum_by-cons f y xs)
        | inr other ↦
            let none : ◌≡◌ {A = ℕ} (cond (e x y) 1 0) 0 = ap {B = ℕ} (λ b. cond b 1 0) other in
            omega (arith, sum-member e exact f x xs (omega (arith, some, none, count-cons (e x) y xs)), sum_by-cons f y xs)
      ]
