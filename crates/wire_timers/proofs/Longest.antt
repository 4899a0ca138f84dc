-- The greatest length of a kind.
use Rattle.std.proofs.Common.{◌≡◌, ℕ, zero, suc, ◌<◌, true, false, List, [], ◌∷◌, length, refl, ap, ◌∙◌, get_or, arith}
use Rattle.std.specs.Prelude.{◌==◌}
use Rattle.std.proofs.lemmas.Bool.{eq-eqb, eqb-true}
use Rattle.link_lists.proofs.Memory.{either}
use Rattle.scaled_timer.specs.declared.timers.TimerKind.{TimerKind}
use Rattle.wire_timers.specs.Kinds.{longest_at}

longest-get : (kinds : List TimerKind) (k : ℕ) (d : TimerKind) → k < length kinds → longest_at kinds k ≡ (get_or kinds k d).max
unfolding longest_at
longest-get [] k d h = absurd (omega (arith, h))
longest-get (x ∷ xs) zero d h = refl
longest-get (x ∷ xs) (suc k) d h = longest-get xs k d (omega (arith, h))

not_zero : (n : ℕ) → (n ≡ 0 → ⊥) → (n == 0) ≡ false
not_zero n h = either (n == 0) (λ t. absurd (h (eqb-true n 0 t))) (λ f. f)

module _ (kinds : List TimerKind) (k : ℕ) (d : TimerKind) (within : k < length kinds) where
  pub is-on : ((get_or kinds k d).max ≡ 0 → ⊥) → (longest_at kinds k == 0) ≡ false
  is-on h = ap (λ n. n == 0) (longest-get kinds k d within) ∙ not_zero (get_or kinds k d).max h

  pub is-off : (get_or kinds k d).max ≡ 0 → (longest_at kinds k == 0) ≡ true
  is-off h = ap (λ n. n == 0) (longest-get kinds k d within) ∙ eq-eqb (get_or kinds k d).max 0 h
