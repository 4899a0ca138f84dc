-- A map in which no number has a place.
use Rattle.std.proofs.Common.{◌≡◌, ℕ, zero, suc, ◌<◌, true, false, cond, List, [], ◌∷◌, refl, sym, ap, ◌∙◌, arith}
use Rattle.std.specs.Prelude.{Some, is_some}
use Rattle.std.specs.BTreeMap.{is_at}
use Rattle.std.specs.Map.{lookup}
use Rattle.std.specs.Ordering.{nat_cmp}
use Rattle.std.proofs.lemmas.Bool.{true≢false}
use Rattle.std.proofs.lemmas.Bool.Decides.{nat_tests}
use Rattle.wire_timers.specs.Held.{Place}

at-itself : (n : ℕ) → is_at (nat_cmp n) n ≡ true
at-itself n = grind (arith, nat_tests)

pub none-at : (es : List (ℕ × Place)) → is_some (lookup (is_at (nat_cmp 0)) es) ≡ false → ((n : ℕ) → 0 < n → is_some (lookup (is_at (nat_cmp n)) es) ≡ true → ⊥) → es ≡ []
none-at [] h more = refl
none-at ((zero, v) ∷ es) h more = absurd (true≢false (sym (ap (λ b. is_some (cond b (Some v) (lookup (is_at (nat_cmp 0)) es))) (at-itself 0)) ∙ h))
none-at ((suc n, v) ∷ es) h more = absurd (more (suc n) (omega arith) (ap (λ b. is_some (cond b (Some v) (lookup (is_at (nat_cmp (suc n))) es))) (at-itself (suc n))))
