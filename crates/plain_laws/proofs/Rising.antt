-- Lists of numbers that rise.
use Rattle.plain_laws.specs.Regular.{IsRising}
use Rattle.std.proofs.Common.{arith, refl}
use Rattle.std.proofs.lemmas.Bool.Decides.{nat_tests}
use Rattle.std.specs.List.{AllByRecursion}
use Rattle.std.specs.Prelude.{Bool, List, [], false, filter, if◌then◌else◌, true, ℕ, ◌++◌, ◌<◌, ◌==◌, ◌∷◌, ◌≡◌}
use Rattle.tape_laws.specs.Dispatches.{has}

pub rising_more : (xs : List ℕ) (x : ℕ) → IsRising xs → AllByRecursion (λ y. y < x) xs → IsRising (xs ++ x ∷ [])
rising_more [] x r a = (tt, tt)
rising_more (y ∷ ys) x r a = (above_more ys y x r.0 a.0, rising_more ys x r.1 a.1)
  where
    above_more : (ys : List ℕ) (y x : ℕ) → AllByRecursion (λ z. y < z) ys → y < x → AllByRecursion (λ z. y < z) (ys ++ x ∷ [])
    above_more [] y x a l = (l, tt)
    above_more (z ∷ zs) y x a l = (a.0, above_more zs y x a.1 l)

all_filter : (P : ℕ → Type 0) (p : ℕ → Bool) (xs : List ℕ) → AllByRecursion P xs → AllByRecursion P (filter p xs)
all_filter P p [] a = tt
all_filter P p (x ∷ xs) a = pick (p x) (all_filter P p xs a.1)
  where
    pick : (b : Bool) → AllByRecursion P (filter p xs) → AllByRecursion P (if b then x ∷ filter p xs else filter p xs)
    pick true rest = (a.0, rest)
    pick false rest = rest

pub rising_filter : (p : ℕ → Bool) (xs : List ℕ) → IsRising xs → IsRising (filter p xs)
rising_filter p [] r = tt
rising_filter p (x ∷ xs) r = pick (p x) (rising_filter p xs r.1)
  where
    pick : (b : Bool) → IsRising (filter p xs) → IsRising (if b then x ∷ filter p xs else filter p xs)
    pick true rest = (all_filter (λ y. x < y) p xs r.0, rest)
    pick false rest = rest

-- the first of a rising list is in it once
pub rising_apart : (x : ℕ) (xs : List ℕ) → AllByRecursion (λ y. x < y) xs → has xs x ≡ false
rising_apart x [] a = refl
rising_apart x (y ∷ ys) a = rw (apart x y a.0, rising_apart x ys a.1) refl
  where
    apart : (x y : ℕ) → x < y → (y == x) ≡ false
    apart x y l = grind (arith, nat_tests)
