-- The flag of a buffer, step by step.
use Rattle.flow_rules.specs.declared.ids.BufferId.{BufferId}
use Rattle.flow_laws.proofs.Lists.{one_if}
use Rattle.std.proofs.Common.{ap, arith, refl, ◌∙◌}
use Rattle.std.proofs.lemmas.Bool.Decides.{nat_tests}
use Rattle.std.specs.Prelude.{Bool, [], false, not, true, ℕ, ◌&&◌, ◌+◌, ◌<◌, ◌∷◌, ◌≡◌, ◌≤◌}
use Rattle.tape_laws.specs.History.{History, Step}
use Rattle.tape_laws.specs.Setup.{Setup}
use Rattle.tape_laws.specs.Watermark.{above, drains_at, limit, rises_at}
use Rattle.tape_laws.specs.World.{len}
use Rattle.wm_buffer.specs.Watermark.{above_after}
use Rattle.flow_rules.specs.declared.ids.BufferId.TheVariants as buffer

again : (l : ℕ) (w : Bool) (n : ℕ) → above_after l (above_after l w n) n ≡ above_after l w n
again l true n = grind (arith, nat_tests)
again l false n = grind (arith, nat_tests)

low_first : (l : ℕ) → above_after l false 0 ≡ false
low_first l = grind (arith, nat_tests)

-- a buffer that isn't above holds at most its limit
pub low_within : (l : ℕ) (w : Bool) (n : ℕ) → above_after l w n ≡ false → 0 < l → n ≤ l
low_within l true n h p = grind (arith, nat_tests)
low_within l false n h p = grind (arith, nat_tests)

low_stays : (l : ℕ) (w : Bool) (n k : ℕ) → above_after l w n ≡ w → k ≤ n → (not w && above_after l w k) ≡ false
low_stays l true n k h le = refl
low_stays l false n k h le = grind (arith, nat_tests)

high_stays : (l : ℕ) (w : Bool) (n k : ℕ) → above_after l w n ≡ w → n ≤ k → (w && not (above_after l w k)) ≡ false
high_stays l true n k h le = ap not (high l n k h le)
  where
    high : (l n k : ℕ) → above_after l true n ≡ true → n ≤ k → above_after l true k ≡ true
    high l n k h le = grind (arith, nat_tests)
high_stays l false n k h le = refl

module _ {Mark : Type 0} (setup : Setup Mark) where
  empty_first : (b : BufferId) → len setup b [] ≡ 0
  empty_first (buffer.Recv f) = refl
  empty_first (buffer.Stage f i) = refl
  empty_first (buffer.Send f) = refl
  empty_first (buffer.Write c) = refl

  -- it follows from itself and the length now
  pub flag_now : (b : BufferId) (h : History Mark) → above_after (limit setup b h) (above setup b h) (len setup b h) ≡ above setup b h
  flag_now b [] = ap (λ n. above_after (limit setup b []) false n) (empty_first b) ∙ low_first (limit setup b [])
  flag_now b (step ∷ h) = again (limit setup b (step ∷ h)) (above setup b h) (len setup b (step ∷ h))

  module _ (b : BufferId) (step : Step Mark) (h : History Mark) (same : limit setup b (step ∷ h) ≡ limit setup b h) where
    -- a buffer that gets no longer doesn't rise, one that gets no shorter doesn't drain
    pub no_rise : len setup b (step ∷ h) ≤ len setup b h → rises_at setup b step h ≡ false
    no_rise le =
        ap (λ l. not (above setup b h) && above_after l (above setup b h) (len setup b (step ∷ h))) same
        ∙ low_stays (limit setup b h) (above setup b h) (len setup b h) (len setup b (step ∷ h)) (flag_now b h) le

    pub no_drain : len setup b h ≤ len setup b (step ∷ h) → drains_at setup b step h ≡ false
    no_drain le =
        ap (λ l. above setup b h && not (above_after l (above setup b h) (len setup b (step ∷ h)))) same
        ∙ high_stays (limit setup b h) (above setup b h) (len setup b h) (len setup b (step ∷ h)) (flag_now b h) le

  -- one with a limit that isn't above holds no more than that
  pub within_limit : (b : BufferId) (h : History Mark) → above setup b h ≡ false → 0 < limit setup b h → len setup b h ≤ limit setup b h
  within_limit b h low some = low_within (limit setup b h) (above setup b h) (len setup b h) (flag_now b h ∙ low) some

-- what is above now and what drained is what was above and what rose
pub crossing : (p q : Bool) → one_if q + one_if (p && not q) ≡ one_if p + one_if (not p && q)
crossing true true = refl
crossing true false = refl
crossing false true = refl
crossing false false = refl
