-- Octets in two parts, one behind the other.
use Rattle.std.proofs.Common.{ap, arith, inl, inr, refl, sym, ◌∙◌}
use Rattle.std.proofs.Math.Seq.{drop-append-add, take-append-add}
use Rattle.std.proofs.lemmas.Bool.Decides.{nat_tests}
use Rattle.std.proofs.lemmas.Bool.{cases_lt}
use Rattle.std.proofs.lemmas.List.{append-nil, drop-append-le, drop_all, length-append, nil_from_length, take-append-le, take_all, take_min}
use Rattle.std.specs.Prelude.{List, [], drop, length, min, suc, take, true, ℕ, ◌++◌, ◌+◌, ◌-◌, ◌<◌, ◌==◌, ◌∷◌, ◌≡◌, ◌≤◌, ◌⊎◌}

-- the first of two parts
pub take_both : (n : ℕ) (xs ys : List ℕ) → take n (xs ++ ys) ≡ take (min n (length xs)) xs ++ take (n - min n (length xs)) ys
take_both n xs ys = by_order (cases_lt n (length xs))
  where
    by_order : (n < length xs) ⊎ (length xs ≤ n) → take n (xs ++ ys) ≡ take (min n (length xs)) xs ++ take (n - min n (length xs)) ys
    by_order (inl few) =
        let none : 0 ≡ n - min n (length xs) = omega arith in
        take-append-le n xs ys (omega arith) ∙ sym (append-nil (take n xs)) ∙ (λ i. sym (take_min n xs) i ++ take (none i) ys)
    by_order (inr many) =
        let rest : n ≡ length xs + (n - min n (length xs)) = omega arith in
        let all : take (min n (length xs)) xs ≡ xs = take_min n xs ∙ take_all n xs many in
        ap (λ (k : ℕ). take k (xs ++ ys)) rest ∙ take-append-add xs ys (n - min n (length xs)) ∙ (λ i. sym all i ++ take (n - min n (length xs)) ys)

-- some are dropped of the first part, or all of it and some of the second
pub drop_both : (n : ℕ) (xs ys : List ℕ) → drop n (xs ++ ys) ≡ drop (min n (length xs)) xs ++ drop (n - min n (length xs)) ys
drop_both n xs ys = by_order (cases_lt n (length xs))
  where
    by_order : (n < length xs) ⊎ (length xs ≤ n) → drop n (xs ++ ys) ≡ drop (min n (length xs)) xs ++ drop (n - min n (length xs)) ys
    by_order (inl few) =
        let none : 0 ≡ n - min n (length xs) = omega arith in
        let some : n ≡ min n (length xs) = omega arith in
        drop-append-le n xs ys (omega arith) ∙ (λ i. drop (some i) xs ++ drop (none i) ys)
    by_order (inr many) =
        let rest : n ≡ length xs + (n - min n (length xs)) = omega arith in
        let gone : drop (min n (length xs)) xs ≡ [] = drop_all (min n (length xs)) xs (omega arith) in
        ap (λ (k : ℕ). drop k (xs ++ ys)) rest ∙ drop-append-add xs ys (n - min n (length xs)) ∙ (λ i. sym gone i ++ drop (n - min n (length xs)) ys)

-- where there are no octets, those that come are all
pub all_that_came : (xs ys came : List ℕ) → length (xs ++ ys) ≡ 0 → (xs ++ ys) ++ came ≡ came ++ ys
all_that_came xs ys came none =
    let empty : xs ++ ys ≡ [] = nil_from_length (xs ++ ys) none in
    let second : ys ≡ [] = nil_from_length ys (omega (arith, none, length-append xs ys)) in
    (λ i. empty i ++ came) ∙ sym (append-nil came) ∙ (λ i. came ++ sym second i)

some_left : (n : ℕ) → (suc n == 0) ≡ true → ⊥
some_left n e = grind (arith, nat_tests)

pub none_before : (xs ys : List ℕ) → (length xs == 0) ≡ true → xs ++ ys ≡ ys
none_before [] ys e = refl
none_before (x ∷ xs) ys e = absurd (some_left (length xs) e)
