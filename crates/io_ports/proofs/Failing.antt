-- Where no call is to fail, none does.
use Rattle.std.proofs.Common.{arith, refl}
use Rattle.std.proofs.lemmas.Bool.Decides.{nat_tests}
use Rattle.std.specs.List.{list_any}
use Rattle.std.specs.Prelude.{Bool, List, [], false, length, suc, true, ℕ, ◌==◌, ◌∷◌, ◌≡◌}

some_listed : (n : ℕ) → (suc n == 0) ≡ true → ⊥
some_listed n e = grind (arith, nat_tests)

pub none_fails : (test : ℕ → Bool) (failing : List ℕ) → (length failing == 0) ≡ true → list_any test failing ≡ false
none_fails test [] e = refl
none_fails test (call ∷ calls) e = absurd (some_listed (length calls) e)
