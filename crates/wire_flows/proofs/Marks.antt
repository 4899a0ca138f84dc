-- The marks of the places of a flow, where one place changed.
use Rattle.exchange_core.proofs.StageSources.{not_last}
use Rattle.filter_chain.proofs.Changes.{get-set_other, get-set_same}
use Rattle.filter_chain.specs.Chain.{EndsInSend, kinds}
use Rattle.filter_chain.specs.Place.{Place, is_source, kind_of}
use Rattle.filter_chain.specs.declared.stage.StageKind.{StageKind}
use Rattle.filter_chain.specs.declared.stage.StageKind.TheVariants as stage
use Rattle.flow_gate.proofs.SameIds.{same_buffer-refl, same_flow-refl}
use Rattle.flow_gate.specs.Ids.{same_buffer, same_flow}
use Rattle.flow_rules.specs.declared.ids.BufferId.{BufferId}
use Rattle.flow_rules.specs.declared.ids.FlowId.{FlowId}
use Rattle.flow_rules.specs.Kinds.{Hold, Kind, Meter, Send}
use Rattle.std.proofs.Common.{ap, arith, inl, inr, refl, subst, sym, ◌∙◌}
use Rattle.std.proofs.lemmas.Bool.Decides.{nat_tests}
use Rattle.std.proofs.lemmas.Option.{none-some, same_Some}
use Rattle.std.specs.Option.{option_map_or}
use Rattle.std.specs.Prelude.{Bool, List, None, Option, Some, [], false, if◌then◌else◌, length, set, slice_get, suc, true, zero, ℕ, ◌&&◌, ◌<◌, ◌==◌, ◌∷◌, ◌≡◌, ◌≢◌, ◌≤◌}
use Rattle.wire_flows.proofs.Cases.{by_case, number_is}
use Rattle.wire_flows.specs.Sound.{buffer_of}
use Rattle.flow_rules.specs.declared.ids.BufferId.TheVariants as buffer

-- the source places are marked where they are above
abbrev pub Marked : (BufferId → Bool) → FlowId → List Place → Type 0
Marked m f places = (i : ℕ) (place : Place) → slice_get places i ≡ Some place → is_source place.kind ≡ true → m (buffer_of f (suc i) (kind_of place.kind)) ≡ place.above

-- this buffer is marked so, and the others as before
abbrev pub marking : BufferId → Bool → (BufferId → Bool) → BufferId → Bool
marking b above m c = if same_buffer b c then above else m c

-- ---- which place a place is
within : (places : List Place) (i : ℕ) (x : Place) → slice_get places i ≡ Some x → i < length places
within [] i x at = absurd (none-some x at)
within (z ∷ places) zero x at = omega arith
within (z ∷ places) (suc i) x at = let rest = within places i x at in omega (arith, rest)

pub send_last : (places : List Place) (i : ℕ) (x : Place) → EndsInSend (kinds places) → slice_get places i ≡ Some x → x.kind ≡ stage.Send → suc i ≡ length places
send_last places i x ends at send = by_case (suc i == length places)
    (λ same. number_is (suc i) (length places) same)
    (λ apart. absurd (not_last places i (before i (length places) (within places i x at) apart) ends (ap (λ (o : Option Place). option_map_or (λ place. place.kind) o stage.Hold) at ∙ send)))
  where
    before : (i l : ℕ) → i < l → (suc i == l) ≡ false → suc i < l
    before i l h e = grind (arith, nat_tests)

differ : (f : FlowId) (i j : ℕ) → (i ≡ j → ⊥) → same_buffer (buffer.Stage f (suc i)) (buffer.Stage f (suc j)) ≡ false
differ f i j apart = by_case (suc i == suc j)
    (λ same. absurd (apart (less i j (number_is (suc i) (suc j) same))))
    (λ other. ap (λ b. same_flow f f && b) other ∙ and_false (same_flow f f))
  where
    less : (i j : ℕ) → suc i ≡ suc j → i ≡ j
    less i j e = omega (arith, e)

    and_false : (b : Bool) → (b && false) ≡ false
    and_false true = refl
    and_false false = refl

by_kinds : (f : FlowId) (i j : ℕ) (a b : Kind) → (i ≡ j → ⊥) → (a ≡ Send → b ≡ Send → ⊥) → same_buffer (buffer_of f (suc i) a) (buffer_of f (suc j) b) ≡ false
by_kinds f i j Hold Hold apart not = differ f i j apart
by_kinds f i j Hold Meter apart not = differ f i j apart
by_kinds f i j Hold Send apart not = refl
by_kinds f i j Meter Hold apart not = differ f i j apart
by_kinds f i j Meter Meter apart not = differ f i j apart
by_kinds f i j Meter Send apart not = refl
by_kinds f i j Send Hold apart not = refl
by_kinds f i j Send Meter apart not = refl
by_kinds f i j Send Send apart not = absurd (not refl refl)

send_kind : (kind : StageKind) → kind_of kind ≡ Send → kind ≡ stage.Send
send_kind stage.Hold e = cc
send_kind (stage.Meter rate) e = cc
send_kind stage.Send e = refl

-- the buffers of two places differ
pub places_differ : (f : FlowId) (places : List Place) (i j : ℕ) (x y : Place) → EndsInSend (kinds places) → slice_get places i ≡ Some x → slice_get places j ≡ Some y → (i ≡ j → ⊥)
    → same_buffer (buffer_of f (suc i) (kind_of x.kind)) (buffer_of f (suc j) (kind_of y.kind)) ≡ false
places_differ f places i j x y ends at at' apart = by_kinds f i j (kind_of x.kind) (kind_of y.kind) apart
    (λ a b. apart (same i j (length places) (send_last places i x ends at (send_kind x.kind a)) (send_last places j y ends at' (send_kind y.kind b))))
  where
    same : (i j l : ℕ) → suc i ≡ l → suc j ≡ l → i ≡ j
    same i j l a b = omega (arith, a, b)

-- ---- one place changed
pub set_marked : (m : BufferId → Bool) (f : FlowId) (places : List Place) (i : ℕ) (x y : Place) → EndsInSend (kinds places) → slice_get places i ≡ Some x → y.kind ≡ x.kind → Marked m f places
    → Marked (marking (buffer_of f (suc i) (kind_of x.kind)) y.above m) f (set places i y)
set_marked m f places i x y ends at same marked j z at' source = by_case (i == j)
    (λ here.
    let e = number_is i j here in
    let found : slice_get (set places i y) j ≡ Some y = ap (λ k. slice_get (set places i y) k) (sym e) ∙ get-set_same places i x y at in
    let is : y ≡ z = same_Some y z (sym found ∙ at') in
    let own : buffer_of f (suc j) (kind_of z.kind) ≡ buffer_of f (suc i) (kind_of x.kind) = (λ k. buffer_of f (suc (sym e k)) (kind_of ((ap (λ (p : Place). p.kind) (sym is) ∙ same) k))) in
    ap (marking (buffer_of f (suc i) (kind_of x.kind)) y.above m) own
    ∙ (ap (λ b. if b then y.above else m (buffer_of f (suc i) (kind_of x.kind))) (same_buffer-refl (buffer_of f (suc i) (kind_of x.kind))) ∙ ap (λ (p : Place). p.above) is))
    (λ other.
    let apart : i ≡ j → ⊥ = λ e. differs i j other e in
    let was : slice_get places j ≡ Some z = sym (get-set_other places i j y (λ e. apart (sym e))) ∙ at' in
    ap (λ b. if b then y.above else m (buffer_of f (suc j) (kind_of z.kind))) (places_differ f places i j x z ends at was apart)
    ∙ marked j z was source)
  where
    differs : (i j : ℕ) → (i == j) ≡ false → i ≡ j → ⊥
    differs i j other e = absurd (grind (arith, nat_tests))

-- the marks of another board are these
pub marked_by : (m m' : BufferId → Bool) (f : FlowId) (places : List Place)
    → ((i : ℕ) (place : Place) → slice_get places i ≡ Some place → is_source place.kind ≡ true → m' (buffer_of f (suc i) (kind_of place.kind)) ≡ m (buffer_of f (suc i) (kind_of place.kind)))
    → Marked m f places → Marked m' f places
marked_by m m' f places same marked i place at source = same i place at source ∙ marked i place at source

-- kinds stay in their order
pub kinds_same : (places : List Place) (i : ℕ) (x y : Place) → slice_get places i ≡ Some x → y.kind ≡ x.kind → kinds (set places i y) ≡ kinds places
kinds_same [] i x y at same = refl
kinds_same (z ∷ places) zero x y at same = ap (λ k. k ∷ kinds places) (same ∙ ap (λ (p : Place). p.kind) (sym (same_Some z x at)))
kinds_same (z ∷ places) (suc i) x y at same = ap (λ ks. z.kind ∷ ks) (kinds_same places i x y at same)
