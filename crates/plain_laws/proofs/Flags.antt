-- The flag of a buffer, step by step.
use Rattle.flow_rules.specs.declared.ids.FlowId.{FlowId}
use Rattle.std.proofs.Common.{arith, ◌∙◌}
use Rattle.std.proofs.lemmas.Bool.Decides.{nat_tests}
use Rattle.std.specs.Prelude.{Bool, [], false, true, ℕ, ◌<◌, ◌∷◌, ◌≡◌, ◌≤◌}
use Rattle.plain_laws.specs.Words.{Past, conn_high, conn_out}
use Rattle.tape_laws.specs.History.{NoMark, Step}
use Rattle.tape_laws.specs.Plain.{plain_setup}
use Rattle.tape_laws.specs.Watermark.{above}
use Rattle.tape_laws.specs.World.{len, place}
use Rattle.tape_laws.specs.declared.PlainLimits.{PlainLimits}
use Rattle.wm_buffer.specs.Watermark.{above_after}
use Rattle.flow_rules.specs.declared.ids.BufferId.TheVariants as buffer

-- asked again at the same length, the flag stays
above_again : (l : ℕ) (w : Bool) (n : ℕ) → above_after l (above_after l w n) n ≡ above_after l w n
above_again l true n = grind (arith, nat_tests)
above_again l false n = grind (arith, nat_tests)

-- a buffer that isn't above holds at most its limit
pub low_len : (l : ℕ) (w : Bool) (n : ℕ) → above_after l w n ≡ false → 0 < l → n ≤ l
low_len l true n h p = grind (arith, nat_tests)
low_len l false n h p = grind (arith, nat_tests)

low_at_first : (l : ℕ) → above_after l false 0 ≡ false
low_at_first l = grind (arith, nat_tests)

-- an empty buffer isn't above
pub low_empty : (l : ℕ) (w : Bool) → above_after l w 0 ≡ false
low_empty l true = grind (arith, nat_tests)
low_empty l false = grind (arith, nat_tests)

-- a low buffer that loses octets stays low
low_less : (l : ℕ) (w : Bool) (n k : ℕ) → above_after l w n ≡ false → k ≤ n → above_after l false k ≡ false
low_less l true n k h le = grind (arith, nat_tests)
low_less l false n k h le = grind (arith, nat_tests)

-- the flag follows from itself and the length now
module _ (limits : PlainLimits) where
  pub send_now : (f : FlowId) (h : Past) → above_after limits.send (above (plain_setup limits) (buffer.Send f) h) (len (plain_setup limits) (buffer.Send f) h) ≡ above (plain_setup limits) (buffer.Send f) h
  send_now f [] = low_at_first limits.send
  send_now f (step ∷ h) = above_again limits.send (above (plain_setup limits) (buffer.Send f) h) (len (plain_setup limits) (buffer.Send f) (step ∷ h))

  pub write_now : (h : Past) → above_after limits.write (conn_high limits h) (len (plain_setup limits) (buffer.Write 0) h) ≡ conn_high limits h
  write_now [] = low_at_first limits.write
  write_now (step ∷ h) = above_again limits.write (conn_high limits h) (len (plain_setup limits) (buffer.Write 0) (step ∷ h))

  -- a step that keeps the contents keeps the flag
  pub send_same : (f : FlowId) (step : Step NoMark) (h : Past) → place (plain_setup limits) f 1 (step ∷ h) ≡ place (plain_setup limits) f 1 h
      → above (plain_setup limits) (buffer.Send f) (step ∷ h) ≡ above (plain_setup limits) (buffer.Send f) h
  send_same f step h e =
      cc (send_now f h)

  pub write_same : (step : Step NoMark) (h : Past) → conn_out limits (step ∷ h) ≡ conn_out limits h
      → conn_high limits (step ∷ h) ≡ conn_high limits h
  write_same step h e =
      cc (write_now h)

-- a step that makes a buffer shorter doesn't make it rise
pub no_rise : (l : ℕ) (w : Bool) (n k : ℕ) → above_after l w n ≡ w → k ≤ n → w ≡ false → above_after l w k ≡ false
no_rise l w n k now le low = cc (low_less l w n k (now ∙ low) le)
