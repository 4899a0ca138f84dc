-- The stages of a flow stand next to each other in the order of stages.
use Rattle.flow_gate.proofs.Orders.{flow_cmp, is_at-flow, stage_cmp}
use Rattle.flow_gate.proofs.SameIds.{same_flow-comm, same_flow-refl, same_flow_exact}
use Rattle.flow_gate.specs.Ids.{same_flow}
use Rattle.flow_gate.specs.Parts.{bound_after, is_after, stage_of}
use Rattle.flow_rules.specs.contracts.ids.FlowIdOrd.TheImpl.Laws as flow_laws
use Rattle.flow_rules.specs.declared.ids.FlowId.{FlowId}
use Rattle.flow_gate.specs.declared.buffers.StageId.{StageId}
use Rattle.std.proofs.Common.{ap, arith, inl, inr, refl, subst, sym, ◌∙◌}
use Rattle.std.proofs.lemmas.Bool.{cases_Bool, false≢true, ltb-true}
use Rattle.std.proofs.lemmas.Bool.Decides.{nat_tests}
use Rattle.std.proofs.lemmas.Option.{none-some}
use Rattle.std.specs.BTreeMap.Range.{IsInRange, IsLeBy}
use Rattle.std.specs.Cmp.{IsTotalOrder}
use Rattle.std.specs.Map.{lookup}
use Rattle.std.specs.Option.{IfNone, IfSome, IsSome}
use Rattle.std.specs.Ordering.{is_eq, is_gt, nat_cmp, ordering_reverse, ordering_then}
use Rattle.std.specs.Prelude.{Bool, List, None, Option, Some, [], false, if◌then◌else◌, length, nat_lt, true, ℕ, ◌<◌, ◌∷◌, ◌≡◌, ◌≤◌}
use Rattle.std.specs.declared.cmp.Ordering.{Ordering}
use Rattle.std.specs.declared.cmp.Ordering.TheVariants.{Equal, Greater, Less}
use Rattle.std.specs.declared.ops.Bound.TheVariants.{Unbounded}

-- ---- the order of flows
order_equal : (o : Ordering) → is_eq o ≡ true → o ≡ Equal
order_equal Less e = absurd (false≢true e)
order_equal Equal e = refl
order_equal Greater e = absurd (false≢true e)

flow_itself : (f : FlowId) → flow_cmp f f ≡ Equal
flow_itself f = order_equal (flow_cmp f f) (is_at-flow f f ∙ same_flow-refl f)

flow_total : IsTotalOrder flow_cmp
flow_total = flow_laws.total-law

-- two ends that are not out of order, with other flows between them, are
order_less : (o p : Ordering) → is_eq o ≡ false → is_gt (ordering_then o p) ≡ false → o ≡ Less
order_less Less p other le = refl
order_less Equal p other le = absurd (false≢true (sym other))
order_less Greater p other le = absurd (false≢true (sym le))

both_less : (f g : FlowId) (o p : Ordering) → same_flow f g ≡ false → is_gt (ordering_then (flow_cmp f g) o) ≡ false → is_gt (ordering_then (flow_cmp g f) p) ≡ false → ⊥
both_less f g o p other up down =
    let onward : flow_cmp f g ≡ Less = order_less (flow_cmp f g) o (is_at-flow f g ∙ other) up in
    let back : flow_cmp g f ≡ Less = order_less (flow_cmp g f) p (is_at-flow g f ∙ same_flow-comm g f ∙ other) down in
    let turned : Less ≡ Greater = sym onward ∙ flow_total.antisymm f g ∙ ap ordering_reverse back in
    cc

-- ---- the stages of a flow
abbrev pub stage_at : FlowId → ℕ → StageId
stage_at f i = record { flow = f; stage = i }

pub stage_in_range : (f : FlowId) (after : Option ℕ) (j : ℕ) → is_after after j ≡ true → IsInRange stage_cmp (bound_after f after) Unbounded (stage_at f j)
stage_in_range f None j later = (ap (λ o. is_gt (ordering_then o (nat_cmp 0 j))) (flow_itself f) ∙ from_zero j, tt)
  where
    from_zero : (k : ℕ) → is_gt (nat_cmp 0 k) ≡ false
    from_zero k = grind (arith, nat_tests)
stage_in_range f (Some i) j later = (ap (λ o. ordering_then o (nat_cmp i j)) (flow_itself f) ∙ below i j (ltb-true i j later), tt)
  where
    below : (m n : ℕ) → m < n → nat_cmp m n ≡ Less
    below m n less = grind (arith, nat_tests)

stage_le : (f : FlowId) (i j : ℕ) → IsLeBy stage_cmp (stage_at f i) (stage_at f j) → i ≤ j
stage_le f i j le = upto i j (ap (λ o. is_gt (ordering_then o (nat_cmp i j))) (sym (flow_itself f)) ∙ le)
  where
    upto : (m n : ℕ) → is_gt (nat_cmp m n) ≡ false → m ≤ n
    upto m n h = grind (arith, nat_tests)

-- a stage that is found comes after the other
pub stage_later : (f : FlowId) (after : Option ℕ) (s : StageId) → IsInRange stage_cmp (bound_after f after) Unbounded s → IfSome (stage_of f s) (λ i. is_after after i ≡ true)
stage_later f None s inside = elim (same_flow f s.flow) as (λ t. IfSome (if t then Some s.stage else None) (λ j. is_after None j ≡ true)) [ true ↦ refl | false ↦ tt ]
stage_later f (Some k) s inside =
    let each : (t : Bool) → same_flow f s.flow ≡ t → IfSome (if t then Some s.stage else None) (λ j. nat_lt k j ≡ true) =
    λ t. elim t as (λ u. same_flow f s.flow ≡ u → IfSome (if u then Some s.stage else None) (λ j. nat_lt k j ≡ true)) [
      | true ↦ λ same. above k s.stage (sym (ap (λ o. ordering_then o (nat_cmp k s.stage)) (flow_itself f)) ∙ ap (λ h. ordering_then (flow_cmp f h) (nat_cmp k s.stage)) (same_flow_exact f s.flow same) ∙ inside.0)
      | false ↦ λ other. tt
    ]
    in each (same_flow f s.flow) refl
  where
    above : (m n : ℕ) → nat_cmp m n ≡ Less → nat_lt m n ≡ true
    above m n less = grind (arith, nat_tests)

-- no stage of the flow lies behind one of another flow
no_stage_beyond : (f : FlowId) (after : Option ℕ) (s : StageId) (j : ℕ) → IsInRange stage_cmp (bound_after f after) Unbounded s → stage_of f s ≡ None →
    IsLeBy stage_cmp s (stage_at f j) → ⊥
no_stage_beyond f None s j inside none le = elim (cases_Bool (same_flow f s.flow)) [
  | inl same ↦ none-some s.stage (sym (ap (λ t. if t then Some s.stage else None) (sym same) ∙ none))
  | inr other ↦ both_less f s.flow (nat_cmp 0 s.stage) (nat_cmp s.stage j) other inside.0 le
]
no_stage_beyond f (Some k) s j inside none le = elim (cases_Bool (same_flow f s.flow)) [
  | inl same ↦ none-some s.stage (sym (ap (λ t. if t then Some s.stage else None) (sym same) ∙ none))
  | inr other ↦ both_less f s.flow (nat_cmp k s.stage) (nat_cmp s.stage j) other (ap is_gt inside.0) le
]

none_unless : {X : Type 0} (o : Option X) → (IsSome o → ⊥) → o ≡ None
none_unless None some = refl
none_unless (Some x) some = absurd (some refl)

-- where s is the first stage that is known from there on
module _ {X : Type 0} (f : FlowId) (after : Option ℕ) (s : StageId) (known : StageId → Option X)
    (first : (t : StageId) → IsInRange stage_cmp (bound_after f after) Unbounded t → IsSome (known t) → IsLeBy stage_cmp s t) where
  pub stages_before : IfSome (stage_of f s) (λ i. (j : ℕ) → is_after after j ≡ true → j < i → known (stage_at f j) ≡ None)
  stages_before =
      let each : (t : Bool) → same_flow f s.flow ≡ t → IfSome (if t then Some s.stage else None) (λ n. (j : ℕ) → is_after after j ≡ true → j < n → known (stage_at f j) ≡ None) =
      λ t. elim t as (λ u. same_flow f s.flow ≡ u → IfSome (if u then Some s.stage else None) (λ n. (j : ℕ) → is_after after j ≡ true → j < n → known (stage_at f j) ≡ None)) [
        | true ↦ λ same j later less. none_unless (known (stage_at f j)) (λ some.
            let upto : s.stage ≤ j = stage_le f s.stage j (subst (λ h. IsLeBy stage_cmp (stage_at h s.stage) (stage_at f j)) (sym (same_flow_exact f s.flow same)) (first (stage_at f j) (stage_in_range f after j later) some)) in
            omega (arith, upto, less))
        | false ↦ λ other. tt
      ]
      in each (same_flow f s.flow) refl

  pub no_stages : IsInRange stage_cmp (bound_after f after) Unbounded s → IfNone (stage_of f s) ((j : ℕ) → is_after after j ≡ true → known (stage_at f j) ≡ None)
  no_stages inside =
      let each : (o : Option ℕ) → stage_of f s ≡ o → IfNone o ((j : ℕ) → is_after after j ≡ true → known (stage_at f j) ≡ None) =
      λ o. elim o as (λ v. stage_of f s ≡ v → IfNone v ((j : ℕ) → is_after after j ≡ true → known (stage_at f j) ≡ None)) [
        | None ↦ λ none j later. none_unless (known (stage_at f j)) (λ some. no_stage_beyond f after s j inside none (first (stage_at f j) (stage_in_range f after j later) some))
        | Some i ↦ λ is. tt
      ]
      in each (stage_of f s) refl

-- where there is no stage at all
pub none_in_empty : {K X : Type 0} (test : K → Bool) (es : List (K × X)) → length es ≡ 0 → lookup test es ≡ None
none_in_empty test [] none = refl
none_in_empty test (e ∷ es) none = absurd (omega (arith, none))
