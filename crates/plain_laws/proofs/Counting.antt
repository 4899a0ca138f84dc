-- The count of a flow, by what it is made of.
use Rattle.flow_rules.specs.declared.ids.FlowId.{FlowId}
use Rattle.std.proofs.Common.{arith, refl}
use Rattle.std.specs.Prelude.{Bool, List, [], count_by, false, if◌then◌else◌, true, ℕ, ◌+◌, ◌∷◌, ◌≡◌}
use Rattle.plain_laws.specs.Words.{Past, conn_high, conn_lows, disabled_at, lows_at, lows_of, send_high}
use Rattle.tape_laws.specs.Flows.{request, same_flow}
use Rattle.tape_laws.specs.declared.PlainLimits.{PlainLimits}

abbrev pub one_if : Bool → ℕ
one_if b = if b then 1 else 0

-- whether the stream's send buffer is above, and the write buffer
abbrev pub send_flag : PlainLimits → ℕ → Past → ℕ
send_flag limits x h = one_if (send_high limits x h)

abbrev pub write_flag : PlainLimits → Past → ℕ
write_flag limits h = one_if (conn_high limits h)

-- how often it is to be told of either
abbrev pub told_of : ℕ → List FlowId → ℕ
told_of x fs = count_by (same_flow (request x)) fs

abbrev pub send_left : PlainLimits → ℕ → Past → ℕ
send_left limits x h = told_of x (lows_of limits x h)

abbrev pub write_left : PlainLimits → ℕ → Past → ℕ
write_left limits x h = told_of x (conn_lows limits h)

both_flags : (a w : Bool) → count_by (λ (b : Bool). b) (a ∷ w ∷ []) ≡ one_if a + one_if w
both_flags true true = refl
both_flags true false = refl
both_flags false true = refl
both_flags false false = refl

module _ (limits : PlainLimits) (x : ℕ) (h : Past) where
  pub disabled_is : disabled_at limits x h ≡ send_flag limits x h + write_flag limits h
  disabled_is = both_flags (send_high limits x h) (conn_high limits h)

  pub lows_are : lows_at limits x h ≡ send_left limits x h + write_left limits x h
  lows_are = two (send_left limits x h) (write_left limits x h)
    where
      two : (a b : ℕ) → 0 + a + b ≡ a + b
      two a b = omega arith
