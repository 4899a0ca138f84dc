-- A flow at a moment: what it knows already stays, and of two moments the later one counts.
use Rattle.exchange_core.specs.Exchange.{at_moment}
use Rattle.exchange_core.specs.Flow.{Flow}
use Rattle.filter_chain.specs.Chain.{Chain}
use Rattle.filter_chain.specs.Effects.{ticked as chain_ticked}
use Rattle.std.proofs.Common.{ap, arith, inl, inr, refl, sym, ◌∙◌}
use Rattle.std.proofs.lemmas.Bool.{cases_Bool, le-ltb, lt-ltb, ltb-false, ltb-true}
use Rattle.std.specs.Prelude.{cond, false, nat_lt, true, ℕ, ◌<◌, ◌≡◌, ◌≤◌}

-- the chain of a flow at a moment
abbrev pub chain_at : ℕ → Chain → Chain
chain_at now chain = cond (nat_lt chain.time now) (chain_ticked chain now) chain

module _ (now : ℕ) (chain : Chain) where
  pub chain_known : now ≤ chain.time → chain_at now chain ≡ chain
  chain_known knows = cc (le-ltb chain.time now knows)

  pub chain_told : chain.time < now → chain_at now chain ≡ chain_ticked chain now
  chain_told later = cc (lt-ltb chain.time now later)

-- ---- a flow
module _ (now : ℕ) (flow : Flow) where
  pub known : now ≤ flow.chain.time → at_moment now flow ≡ flow
  known knows = ap (λ chain. record flow { chain = chain }) (chain_known now flow.chain knows)

  pub told : now ≤ (at_moment now flow).chain.time
  told = elim (cases_Bool (nat_lt flow.chain.time now)) [
    | inl later ↦ omega (arith, ap (λ b. (cond b (chain_ticked flow.chain now) flow.chain).time) later)
    | inr is ↦ omega (arith, ap (λ b. (cond b (chain_ticked flow.chain now) flow.chain).time) is, ltb-false flow.chain.time now is)
  ]

pub told_by : (now time : ℕ) (flow : Flow) → now ≤ time → flow.chain.time ≤ time → (at_moment now flow).chain.time ≤ time
told_by now time flow first second = elim (cases_Bool (nat_lt flow.chain.time now)) [
  | inl later ↦ omega (arith, ap (λ b. (cond b (chain_ticked flow.chain now) flow.chain).time) later)
  | inr is ↦ omega (arith, ap (λ b. (cond b (chain_ticked flow.chain now) flow.chain).time) is)
]

-- what the time leaves of a chain
pub chain_kept : {Y : Type 0} (read : Chain → Y) (now : ℕ) (chain : Chain) → read (chain_ticked chain now) ≡ read chain → read (chain_at now chain) ≡ read chain
chain_kept read now chain same = elim (nat_lt chain.time now) as (λ b. read (cond b (chain_ticked chain now) chain) ≡ read chain) [ true ↦ same | false ↦ refl ]

-- ---- two moments
-- of a chain, two ticks do what the later one does
abbrev pub AddUp : Type 0
AddUp = (chain : Chain) (now later : ℕ) → chain.started ≤ chain.time → chain.time ≤ now → now ≤ later
    → chain_ticked (chain_ticked chain now) later ≡ chain_ticked chain later

chain_later : AddUp → (now later : ℕ) (chain : Chain) → now ≤ later → chain.started ≤ chain.time → chain_at later (chain_at now chain) ≡ chain_at later chain
chain_later sums now later chain after clock = elim (cases_Bool (nat_lt chain.time now)) [
  | inl is ↦
      let first : chain.time < now = ltb-true chain.time now is in
      ap (chain_at later) (chain_told now chain first) ∙ elim (cases_Bool (nat_lt now later)) [
        | inl second ↦
            let beyond : now < later = ltb-true now later second in
            chain_told later (chain_ticked chain now) beyond ∙ sums chain now later clock (omega arith) (omega arith) ∙ sym (chain_told later chain (omega arith))
        | inr last ↦
            let same : now ≡ later = omega (arith, ltb-false now later last) in
            chain_known later (chain_ticked chain now) (omega arith) ∙ ap (chain_ticked chain) same ∙ sym (chain_told later chain (omega arith))
      ]
  | inr is ↦ ap (chain_at later) (chain_known now chain (ltb-false chain.time now is))
]

pub flow_later : AddUp → (now later : ℕ) (flow : Flow) → now ≤ later → flow.chain.started ≤ flow.chain.time → at_moment later (at_moment now flow) ≡ at_moment later flow
flow_later sums now later flow after clock = cc (chain_later sums now later flow.chain after clock)
