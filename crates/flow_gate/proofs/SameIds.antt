-- The tests of flows and buffers decide whether they are equal.
use Rattle.flow_gate.specs.Ids.{same_buffer, same_flow}
use Rattle.flow_rules.specs.declared.ids.BufferId.{BufferId}
use Rattle.flow_rules.specs.declared.ids.FlowId.{FlowId}
use Rattle.std.proofs.Common.{ap, refl, subst, sym, ◌∙◌}
use Rattle.std.proofs.lemmas.Bool.{and_parts, eq-eqb, eqb-true, false≢true, false_from_ne_true}
use Rattle.std.specs.Prelude.{Bool, false, if◌then◌else◌, not, true, ◌&&◌, ◌==◌, ◌≡◌}
use Rattle.flow_rules.specs.declared.ids.BufferId.TheVariants as buffer

same_back : (a b : Bool) → (if a then b else not b) ≡ true → a ≡ b
same_back true b e = sym e
same_back false true e = e
same_back false false e = refl

back-refl : (a : Bool) → (if a then a else not a) ≡ true
back-refl true = refl
back-refl false = refl

pub same_flow-refl : (f : FlowId) → same_flow f f ≡ true
same_flow-refl f = ap (λ b. b && (if f.back then f.back else not f.back)) (eq-eqb f.exchange f.exchange refl) ∙ back-refl f.back

pub same_flow_exact : (f g : FlowId) → same_flow f g ≡ true → f ≡ g
same_flow_exact f g e =
    let parts = and_parts (f.exchange == g.exchange) (if f.back then g.back else not g.back) e in
    let exchanges : f.exchange ≡ g.exchange = eqb-true f.exchange g.exchange parts.0 in
    let backs : f.back ≡ g.back = same_back f.back g.back parts.1 in
    λ i. record { exchange = exchanges i; back = backs i }

pub same_buffer-refl : (b : BufferId) → same_buffer b b ≡ true
same_buffer-refl (buffer.Recv f) = same_flow-refl f
same_buffer-refl (buffer.Stage f i) = ap (λ t. t && (i == i)) (same_flow-refl f) ∙ eq-eqb i i refl
same_buffer-refl (buffer.Send f) = same_flow-refl f
same_buffer-refl (buffer.Write c) = eq-eqb c c refl

pub same_buffer_exact : (b c : BufferId) → same_buffer b c ≡ true → b ≡ c
same_buffer_exact (buffer.Recv f) (buffer.Recv g) e = ap buffer.Recv (same_flow_exact f g e)
same_buffer_exact (buffer.Stage f i) (buffer.Stage g j) e =
    let parts = and_parts (same_flow f g) (i == j) e in
    let flows : f ≡ g = same_flow_exact f g parts.0 in
    let places : i ≡ j = eqb-true i j parts.1 in
    λ k. buffer.Stage (flows k) (places k)
same_buffer_exact (buffer.Send f) (buffer.Send g) e = ap buffer.Send (same_flow_exact f g e)
same_buffer_exact (buffer.Write c) (buffer.Write d) e = ap buffer.Write (eqb-true c d e)
same_buffer_exact _ _ e = absurd (false≢true e)

-- a test that decides equality is symmetric
flips : {X : Type 0} (same : X → X → Bool) → ((x : X) → same x x ≡ true) → ((x y : X) → same x y ≡ true → x ≡ y) → (x y : X) → same x y ≡ same y x
flips same self exact x y =
    let onward : (b : Bool) → same x y ≡ b → same x y ≡ same y x = λ b. elim b as (λ v. same x y ≡ v → same x y ≡ same y x) [
      | true ↦ λ e. e ∙ sym (subst (λ z. same z x ≡ true) (exact x y e) (self x))
      | false ↦ λ e. e ∙ sym (false_from_ne_true (same y x) (λ h. false≢true (sym e ∙ subst (λ z. same z y ≡ true) (exact y x h) (self y))))
    ] in onward (same x y) refl

pub same_flow-comm : (f g : FlowId) → same_flow f g ≡ same_flow g f
same_flow-comm = flips same_flow same_flow-refl same_flow_exact

pub same_buffer-comm : (b c : BufferId) → same_buffer b c ≡ same_buffer c b
same_buffer-comm = flips same_buffer same_buffer-refl same_buffer_exact
