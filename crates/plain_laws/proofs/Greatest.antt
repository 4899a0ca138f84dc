-- The greatest length of a buffer, step by step.
use Rattle.flow_rules.specs.declared.ids.BufferId.{BufferId}
use Rattle.std.proofs.Common.{ap, arith, length-drop, ◌∙◌}
use Rattle.std.specs.Prelude.{List, [], drop, length, ℕ, ◌-◌, ◌∷◌, ◌≡◌, ◌≤◌}
use Rattle.plain_laws.specs.Words.{Past}
use Rattle.tape_laws.specs.History.{NoMark, Step}
use Rattle.tape_laws.specs.Plain.{plain_setup}
use Rattle.tape_laws.specs.Summary.{peak}
use Rattle.tape_laws.specs.World.{len}
use Rattle.tape_laws.specs.declared.PlainLimits.{PlainLimits}

-- the peak of a buffer that a step made no longer
module _ (limits : PlainLimits) (b : BufferId) (step : Step NoMark) where
  pub peak_same : (h : Past) → len (plain_setup limits) b (step ∷ h) ≤ len (plain_setup limits) b h
      → len {Mark = NoMark} (plain_setup limits) b [] ≡ 0 → peak (plain_setup limits) b (step ∷ h) ≡ peak (plain_setup limits) b h
  peak_same [] le z = omega (arith, le, z)
  peak_same (first ∷ h) le z = omega (arith, le)

  pub peak_kept : (h : Past) → len (plain_setup limits) b (step ∷ h) ≡ len (plain_setup limits) b h
      → len {Mark = NoMark} (plain_setup limits) b [] ≡ 0 → peak (plain_setup limits) b (step ∷ h) ≡ peak (plain_setup limits) b h
  peak_kept h e z = peak_same h (omega (arith, e)) z

-- a front that was dropped
pub dropped : (n : ℕ) (xs ys : List ℕ) → xs ≡ drop n ys → length xs ≤ length ys
dropped n xs ys e = let l : length xs ≡ length ys - n = ap length e ∙ length-drop n ys in omega (arith, l)
