-- What is told by the unit that a connection frames next.
use Rattle.flow_rules.specs.declared.ids.FlowId.{FlowId}
use Rattle.flow_laws.proofs.Lists.{both, by_case, flow_is, flow_same, not_both, number_is, or_left, or_right, or_true}
use Rattle.flow_rules.specs.State.{FlowState}
use Rattle.flow_rules.specs.Units.{carried, carries_end as ends_with, ends_after, head_may_go, is_unit, next_head, next_unit as first_unit}
use Rattle.flow_rules.specs.declared.unit.Unit.{Unit as FlowUnit}
use Rattle.std.proofs.Common.{ap, arith, refl, sym, ◌∙◌}
use Rattle.std.proofs.lemmas.Bool.Decides.{nat_tests}
use Rattle.std.proofs.lemmas.List.Folds.{list_any-append}
use Rattle.std.specs.List.{list_any}
use Rattle.std.specs.Prelude.{Bool, List, None, Option, Some, [], false, filter, if◌then◌else◌, nat_le, nat_lt, not, true, ℕ, ◌&&◌, ◌<◌, ◌||◌, ◌∷◌, ◌≡◌}
use Rattle.tape_laws.specs.Dispatches.{is_some_of}
use Rattle.tape_laws.specs.Flows.{same_flow}
use Rattle.tape_laws.specs.Framing.{next_unit}
use Rattle.tape_laws.specs.History.{History}
use Rattle.tape_laws.specs.Order.{Flows, NextUnit, first_flow, first_grant, first_waiting, framed_last, in_rotation, next_on, ready_flows}
use Rattle.tape_laws.specs.Setup.{Setup}
use Rattle.tape_laws.specs.Sources.{is_live, live_flows}
use Rattle.tape_laws.specs.Units.{Grant, Waiting}
use Rattle.flow_rules.specs.declared.unit.Unit.TheVariants as unit

pub record IsBody (flow : FlowState) (n : ℕ) (last : Bool) : Type 0 where
  pub all : n ≡ carried flow
  pub exactly : last ≡ ends_with flow n
  pub some : (nat_lt 0 n || last) ≡ true
  pub after_head : flow.head_waits ≡ false
  -- an empty one goes only where the end wasn't framed
  pub again : flow.end_framed ≡ true → 0 < n

body_parts : (a b : ℕ) (c d : Bool) → unit.Body a c ≡ unit.Body b d → (a ≡ b) × (c ≡ d)
body_parts a b c d e = (cc, cc)

pub body_is : (flow : FlowState) (n : ℕ) (last : Bool) → first_unit flow ≡ unit.Body n last → IsBody flow n last
body_is flow n last e = at flow.head_waits refl (nat_lt 0 (carried flow)) refl (ends_after flow 0) refl flow.end_framed refl flow.trailers_wait refl e
  where
    positive : (k : ℕ) → nat_lt 0 k ≡ true → 0 < k
    positive k t = grind (arith, nat_tests)

    none : (k : ℕ) → nat_lt 0 k ≡ false → k ≡ 0
    none k t = grind (arith, nat_tests)

    two : (a b : Bool) → a ≡ true → b ≡ false → true ≡ (a && not b)
    two true true i j = cc
    two true false i j = refl
    two false b i j = cc

    at : (w : Bool) → flow.head_waits ≡ w → (c : Bool) → nat_lt 0 (carried flow) ≡ c → (a : Bool) → ends_after flow 0 ≡ a → (f : Bool) → flow.end_framed ≡ f → (t : Bool) → flow.trailers_wait ≡ t
        → (if w then next_head flow else if c then unit.Body (carried flow) (ends_with flow (carried flow)) else if not a || f then unit.Nothing else if t then unit.Trailers else unit.Body 0 true) ≡ unit.Body n last
        → IsBody flow n last
    at true ew c ec a ea f ef t et e = never (head_may_go flow) e
      where
        never : (b : Bool) → (if b then unit.Head flow.head_ends else unit.Nothing) ≡ unit.Body n last → IsBody flow n last
        never true e = cc
        never false e = cc
    at false ew true ec a ea f ef t et e =
        let k = body_parts (carried flow) n (ends_with flow (carried flow)) last e in
        let more : nat_lt 0 n ≡ true = ap (λ v. nat_lt 0 v) (sym k.0) ∙ ec in
        record {
          all = sym k.0;
          exactly = sym k.1 ∙ ap (λ v. ends_with flow v) k.0;
          some = or_left (nat_lt 0 n) last more;
          after_head = ew;
          again = λ g. positive n more;
        }
    at false ew false ec true ea false ef false et e =
        let k = body_parts 0 n true last e in
        record {
          all = sym k.0 ∙ sym (none (carried flow) ec);
          exactly = sym k.1 ∙ (two (ends_after flow 0) flow.trailers_wait ea et ∙ ap (λ v. ends_with flow v) k.0);
          some = or_right (nat_lt 0 n) last (sym k.1);
          after_head = ew;
          again = λ g. not_both flow.end_framed g ef;
        }
    at false ew false ec true ea false ef true et e = cc
    at false ew false ec true ea true ef t et e = cc
    at false ew false ec false ea f ef t et e = cc

-- ---- which flow it is of
module _ {Mark : Type 0} (setup : Setup Mark) (h : History Mark) where
  first_is : (fs : List FlowId) (f : FlowId) (u : FlowUnit) → first_flow setup fs h ≡ Flows f u → (list_any (same_flow f) fs ≡ true) × (next_unit setup f h ≡ u)
  first_is [] f u e = cc
  first_is (g ∷ gs) f u e =
      let k = parts g f (next_unit setup g h) u e in
      (or_left (same_flow f g) (list_any (same_flow f) gs) (ap (λ v. same_flow f v) k.0 ∙ flow_same f), ap (λ v. next_unit setup v h) (sym k.0) ∙ k.1)
    where
      parts : (a b : FlowId) (u v : FlowUnit) → Flows a u ≡ Flows b v → (a ≡ b) × (u ≡ v)
      parts a b u v e = (cc, cc)

  waits_none : (ws : List Waiting) (o : NextUnit) (f : FlowId) (u : FlowUnit) → first_waiting ws o ≡ Flows f u → o ≡ Flows f u
  waits_none [] o f u e = e
  waits_none (w ∷ ws) o f u e = cc

  grants_none : (gs : List Grant) (o : NextUnit) (f : FlowId) (u : FlowUnit) → first_grant gs o ≡ Flows f u → o ≡ Flows f u
  grants_none [] o f u e = e
  grants_none (g ∷ gs) o f u e = cc

  among_left : (p : FlowId → Bool) (f : FlowId) (fs : List FlowId) → list_any (same_flow f) (filter p fs) ≡ true → (p f ≡ true) × (list_any (same_flow f) fs ≡ true)
  among_left p f [] e = cc
  among_left p f (g ∷ gs) e = at (p g) refl e (λ i. among_left p f gs i)
    where
      at : (b : Bool) → p g ≡ b → list_any (same_flow f) (if b then g ∷ filter p gs else filter p gs) ≡ true
          → (list_any (same_flow f) (filter p gs) ≡ true → (p f ≡ true) × (list_any (same_flow f) gs ≡ true)) → (p f ≡ true) × (list_any (same_flow f) (g ∷ gs) ≡ true)
      at true i e r = by_case (same_flow f g) (λ t. (ap p (flow_is f g t) ∙ i, or_left (same_flow f g) (list_any (same_flow f) gs) t))
          (λ d. let k = r (or_true (same_flow f g) _ e d) in (k.0, or_right (same_flow f g) (list_any (same_flow f) gs) k.1))
      at false i e r = let k = r e in (k.0, or_right (same_flow f g) (list_any (same_flow f) gs) k.1)

  rotated : (k : ℕ) (f : FlowId) (fs : List FlowId) → list_any (same_flow f) (in_rotation k fs) ≡ true → list_any (same_flow f) fs ≡ true
  rotated k f fs e =
      either _ _ (sym (list_any-append (same_flow f) (filter (λ g. nat_lt k g.exchange) fs) (filter (λ g. nat_le g.exchange k) fs)) ∙ e)
      (λ t. (among_left (λ g. nat_lt k g.exchange) f fs t).1) (λ t. (among_left (λ g. nat_le g.exchange k) f fs t).1)
    where
      either : {A : Type 0} (a b : Bool) → (a || b) ≡ true → (a ≡ true → A) → (b ≡ true → A) → A
      either true b e f g = f refl
      either false b e f g = g e

  pub record IsNext (c : ℕ) (f : FlowId) (u : FlowUnit) : Type 0 where
    pub live : is_live setup f h ≡ true
    pub to : setup.goes_to f h ≡ Some c
    pub own : next_unit setup f h ≡ u

  pub next_is : (c : ℕ) (f : FlowId) (u : FlowUnit) → next_on setup c h ≡ Flows f u → IsNext c f u
  next_is c f u e =
      let o = first_is (in_rotation (framed_last setup c h) (ready_flows setup c h)) f u (grants_none (setup.grants c h) _ f u (waits_none (setup.waiting c h) _ f u e)) in
      let k = among_left (λ g. is_some_of (setup.goes_to g h) c && is_unit (next_unit setup g h)) f (live_flows setup h) (rotated (framed_last setup c h) f (ready_flows setup c h) o.0) in
      record { live = k.1; to = named (setup.goes_to f h) (both (is_some_of (setup.goes_to f h) c) _ k.0).0; own = o.1 }
    where
      named : (o : Option ℕ) → is_some_of o c ≡ true → o ≡ Some c
      named None e = cc
      named (Some d) e = ap (λ (v : ℕ). Some v) (number_is d c e)
