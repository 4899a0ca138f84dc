-- Whether a write buffer is above, step by step.
use Rattle.relay_laws.specs.Pairs.{Tape}
use Rattle.relay_laws.specs.Watermark.{above}
use Rattle.relay_laws.specs.World.{out}
use Rattle.std.proofs.Common.{ap, arith, sym, ◌∙◌}
use Rattle.std.proofs.lemmas.Bool.Decides.{nat_tests}
use Rattle.std.specs.Prelude.{Bool, List, [], false, length, true, ℕ, ◌<◌, ◌∷◌, ◌≡◌, ◌≤◌}
use Rattle.tape_laws.specs.History.{NoMark, Step}
use Rattle.wm_buffer.specs.Watermark.{above_after}

-- asked again at the same length, the flag stays
above_again : (l : ℕ) (w : Bool) (n : ℕ) → above_after l (above_after l w n) n ≡ above_after l w n
above_again l true n = grind (arith, nat_tests)
above_again l false n = grind (arith, nat_tests)

low_at_first : (l : ℕ) → above_after l false 0 ≡ false
low_at_first l = grind (arith, nat_tests)

-- an empty buffer isn't above
low_empty : (l : ℕ) (w : Bool) → above_after l w 0 ≡ false
low_empty l true = grind (arith, nat_tests)
low_empty l false = grind (arith, nat_tests)

-- one that isn't above holds at most its limit
pub low_len : (l : ℕ) (w : Bool) (n : ℕ) → above_after l w n ≡ false → 0 < l → n ≤ l
low_len l true n h p = grind (arith, nat_tests)
low_len l false n h p = grind (arith, nat_tests)

-- the flag follows from itself and the length now
pub above_now : (limit c : ℕ) (h : Tape) → above_after limit (above limit c h) (length (out c h)) ≡ above limit c h
above_now limit c [] = low_at_first limit
above_now limit c (step ∷ h) = above_again limit (above limit c h) (length (out c (step ∷ h)))

-- a step that leaves what waits leaves the flag
pub above_same : (limit c : ℕ) (step : Step NoMark) (h : Tape) → out c (step ∷ h) ≡ out c h → above limit c (step ∷ h) ≡ above limit c h
above_same limit c step h e = ap (λ (o : List ℕ). above_after limit (above limit c h) (length o)) e ∙ above_now limit c h

pub above_empty : (limit c : ℕ) (h : Tape) → out c h ≡ [] → above limit c h ≡ false
above_empty limit c h e =
    sym (above_now limit c h) ∙ ap (λ (o : List ℕ). above_after limit (above limit c h) (length o)) e ∙ low_empty limit (above limit c h)

-- one that isn't above doesn't rise when it grows shorter
pub low_less : (l : ℕ) (w : Bool) (n k : ℕ) → above_after l w n ≡ false → k ≤ n → above_after l false k ≡ false
low_less l true n k h le = grind (arith, nat_tests)
low_less l false n k h le = grind (arith, nat_tests)

pub above_less : (limit c k : ℕ) (h : Tape) → above limit c h ≡ false → k ≤ length (out c h) → above_after limit (above limit c h) k ≡ false
above_less limit c k h low le =
    ap (λ w. above_after limit w k) low ∙ low_less limit (above limit c h) (length (out c h)) k (above_now limit c h ∙ low) le
