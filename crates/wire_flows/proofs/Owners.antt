-- Whose a buffer is.
use Rattle.flow_gate.proofs.SameIds.{same_buffer_exact, same_flow-refl, same_flow_exact}
use Rattle.flow_gate.specs.Board.{times}
use Rattle.flow_gate.specs.Changes.{without}
use Rattle.flow_gate.specs.Ids.{is_own, same_buffer, same_flow}
use Rattle.flow_rules.specs.declared.ids.BufferId.{BufferId}
use Rattle.flow_rules.specs.declared.ids.FlowId.{FlowId}
use Rattle.flow_gate.proofs.Counting.{count-cons}
use Rattle.std.proofs.Common.{ap, arith, refl, subst, sym, ◌∙◌}
use Rattle.std.specs.Prelude.{Bool, List, [], cond, false, if◌then◌else◌, length, not, true, ℕ, ◌+◌, ◌∷◌, ◌≡◌, ◌≤◌}
use Rattle.wire_flows.proofs.Cases.{by_case, not_both}
use Rattle.flow_rules.specs.declared.ids.BufferId.TheVariants as buffer

one_owner : (f g h : FlowId) → same_flow f h ≡ true → same_flow g h ≡ true → same_flow f g ≡ true
one_owner f g h a b = subst (λ k. same_flow f k ≡ true) (sym (same_flow_exact g h b)) a

pub own_exact : (f g : FlowId) (b : BufferId) → is_own f b ≡ true → is_own g b ≡ true → same_flow f g ≡ true
own_exact f g (buffer.Recv h) a b = one_owner f g h a b
own_exact f g (buffer.Stage h i) a b = one_owner f g h a b
own_exact f g (buffer.Send h) a b = one_owner f g h a b
own_exact f g (buffer.Write c) a b = cc

-- of two flows no buffer is one
pub own_differs : (f g : FlowId) (b c : BufferId) → same_flow f g ≡ false → is_own f b ≡ true → is_own g c ≡ true → same_buffer b c ≡ false
own_differs f g b c apart own other = by_case (same_buffer b c)
    (λ same. not_both (same_flow f g) (own_exact f g c (subst (λ d. is_own f d ≡ true) (same_buffer_exact b c same) own) other) apart)
    (λ differ. differ)

-- ---- lists of flows
-- where no other flow is there, it stands as often as it is counted
pub only_one : (f : FlowId) (fs : List FlowId) → ((g : FlowId) → same_flow f g ≡ false → times g fs ≡ 0) → times f fs ≡ 1 → fs ≡ f ∷ []
only_one f [] none one = absurd (omega (arith, one))
only_one f (g ∷ gs) none one =
    let here = is_it f g gs none in
    let rest : times f gs ≡ 0 = left (times f (g ∷ gs)) (cond (same_flow f g) 1 0) (times f gs) (count-cons (same_flow f) g gs) one (ap {B = ℕ} (λ b. cond b 1 0) here) in
    (λ i. sym (same_flow_exact f g here) i ∷ none_left f gs (λ h apart. fewer (times h (g ∷ gs)) (cond (same_flow h g) 1 0) (times h gs) (count-cons (same_flow h) g gs) (none h apart)) rest i)
  where
    left : (t c r : ℕ) → t ≡ c + r → t ≡ 1 → c ≡ 1 → r ≡ 0
    left t c r e o h = omega (arith, e, o, h)

    fewer : (t c r : ℕ) → t ≡ c + r → t ≡ 0 → r ≡ 0
    fewer t c r e o = omega (arith, e, o)

    is_it : (f g : FlowId) (gs : List FlowId) → ((h : FlowId) → same_flow f h ≡ false → times h (g ∷ gs) ≡ 0) → same_flow f g ≡ true
    is_it f g gs none = by_case (same_flow f g) (λ same. same) (λ apart.
        let zero = none g apart in
        let self : cond (same_flow g g) 1 0 ≡ 1 = ap {B = ℕ} (λ b. cond b 1 0) (same_flow-refl g) in
        absurd (omega (arith, count-cons (same_flow g) g gs, zero, self)))

    none_left : (f : FlowId) (gs : List FlowId) → ((h : FlowId) → same_flow f h ≡ false → times h gs ≡ 0) → times f gs ≡ 0 → gs ≡ []
    none_left f [] none zero = refl
    none_left f (g ∷ gs) none zero = by_case (same_flow f g)
        (λ same. let self : cond (same_flow f g) 1 0 ≡ 1 = ap {B = ℕ} (λ b. cond b 1 0) same in absurd (omega (arith, count-cons (same_flow f) g gs, zero, self)))
        (λ apart.
        let self : cond (same_flow g g) 1 0 ≡ 1 = ap {B = ℕ} (λ b. cond b 1 0) (same_flow-refl g) in
        absurd (omega (arith, count-cons (same_flow g) g gs, none g apart, self)))

-- where it isn't there either, none is
pub no_one : (f : FlowId) (fs : List FlowId) → ((g : FlowId) → times g fs ≡ 0) → fs ≡ []
no_one f [] none = refl
no_one f (g ∷ gs) none =
    let self : cond (same_flow g g) 1 0 ≡ 1 = ap {B = ℕ} (λ b. cond b 1 0) (same_flow-refl g) in
    absurd (omega (arith, count-cons (same_flow g) g gs, none g, self))

-- and of few times, few
pub few_times : (f : FlowId) (fs : List FlowId) → ((g : FlowId) → same_flow f g ≡ false → times g fs ≡ 0) → times f fs ≤ 1 → length fs ≤ 1
few_times f [] none few = omega arith
few_times f (g ∷ gs) none few = by_case (same_flow f g)
    (λ same.
    let self : cond (same_flow f g) 1 0 ≡ 1 = ap {B = ℕ} (λ b. cond b 1 0) same in
    let rest : gs ≡ [] = no_one f gs (λ h. by_case (same_flow f h)
    (λ is. let e : times f gs ≡ 0 = omega (arith, count-cons (same_flow f) g gs, few, self) in subst (λ k. times k gs ≡ 0) (same_flow_exact f h is) e)
    (λ apart. omega (arith, count-cons (same_flow h) g gs, none h apart))) in
    short gs rest)
    (λ apart.
    let self : cond (same_flow g g) 1 0 ≡ 1 = ap {B = ℕ} (λ b. cond b 1 0) (same_flow-refl g) in
    absurd (omega (arith, count-cons (same_flow g) g gs, none g apart, self)))
  where
    short : (gs : List FlowId) → gs ≡ [] → length (g ∷ gs) ≤ 1
    short gs e = omega (arith, ap length e)

-- a flow that isn't there isn't left out
pub without_none : (f : FlowId) (fs : List FlowId) → times f fs ≡ 0 → without f fs ≡ fs
without_none f [] none = refl
without_none f (g ∷ gs) none = by_case (same_flow f g)
    (λ same. let self : cond (same_flow f g) 1 0 ≡ 1 = ap {B = ℕ} (λ b. cond b 1 0) same in absurd (omega (arith, count-cons (same_flow f) g gs, none, self)))
    (λ apart.
    let self : cond (same_flow f g) 1 0 ≡ 0 = ap {B = ℕ} (λ b. cond b 1 0) apart in
    ap (λ b. if not b then g ∷ without f gs else without f gs) apart ∙ ap (λ hs. g ∷ hs) (without_none f gs (omega (arith, count-cons (same_flow f) g gs, none, self))))
