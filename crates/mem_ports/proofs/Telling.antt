-- What a clock tells, once it was asked once more.
use Rattle.mem_ports.specs.Moments.{given_by, moment_at, next_count}
use Rattle.std.proofs.Common.{ap, arith, inl, inr, refl, sym, ◌∙◌}
use Rattle.std.proofs.lemmas.Bool.Decides.{nat_tests}
use Rattle.std.specs.Prelude.{Bool, List, None, Option, Some, [], false, if◌then◌else◌, nat_lt, suc, true, ℕ, ◌+◌, ◌++◌, ◌-◌, ◌<◌, ◌∷◌, ◌^◌, ◌≡◌}
use Rattle.worker_ports.specs.Told.{TellsLast, with_last}

abbrev given_if : Bool → List ℕ → ℕ → Option (List ℕ)
given_if b moments n = if b then Some (given_by moments n) else None

below_end : (n : ℕ) → nat_lt (next_count n) (2 ^ 64 - 1) ≡ true → n + 1 < 2 ^ 64 - 1
below_end n e = grind (arith, nat_tests)

next_is : (n : ℕ) → n + 1 < 2 ^ 64 - 1 → next_count n ≡ suc n
next_is n h = omega (arith, h)

old_below : (n : ℕ) → n + 1 < 2 ^ 64 - 1 → nat_lt n (2 ^ 64 - 1) ≡ true
old_below n h = grind (arith, nat_tests)

tells_by : (moments : List ℕ) (n x : ℕ) → x ≡ moment_at moments n → (b : Bool) → nat_lt (next_count n) (2 ^ 64 - 1) ≡ b
    → TellsLast (given_if (nat_lt n (2 ^ 64 - 1)) moments n) x (given_if (nat_lt (next_count n) (2 ^ 64 - 1)) moments (next_count n))
tells_by moments n x is false e = inl (ap (λ b. given_if b moments (next_count n)) e)
tells_by moments n x is true e =
    let less = below_end n e in
    inr (ap (λ b. given_if b moments (next_count n)) e
    ∙ ap (λ m. Some (given_by moments m)) (next_is n less)
    ∙ ap (λ y. Some (given_by moments n ++ y ∷ [])) (sym is)
    ∙ sym (ap (λ b. with_last x (given_if b moments n)) (old_below n less)))

pub tells_one_more : (moments : List ℕ) (n x : ℕ) → x ≡ moment_at moments n
    → TellsLast (given_if (nat_lt n (2 ^ 64 - 1)) moments n) x (given_if (nat_lt (next_count n) (2 ^ 64 - 1)) moments (next_count n))
tells_one_more moments n x is = tells_by moments n x is (nat_lt (next_count n) (2 ^ 64 - 1)) refl
