-- What a step needs of the gates.
use Rattle.exchange_core.proofs.StageSources.{not_last}
use Rattle.exchange_core.specs.Effects.{moved}
use Rattle.exchange_core.specs.Exchange.{IsFlowOf}
use Rattle.exchange_core.specs.Flow.{Flow, last_place}
use Rattle.filter_chain.proofs.Changes.{get-set_other, get-set_same}
use Rattle.filter_chain.specs.Chain.{above_at}
use Rattle.filter_chain.specs.Place.{IsPlace, IsWithinKind, Place, is_source, kind_of}
use Rattle.filter_chain.specs.declared.stage.StageKind.{StageKind}
use Rattle.filter_chain.specs.declared.stage.StageKind.TheVariants as stage
use Rattle.flow_gate.proofs.SameIds.{same_flow-refl}
use Rattle.flow_gate.specs.Board.{is_known, is_marked, watchers_of}
use Rattle.flow_rules.specs.declared.ids.BufferId.{BufferId}
use Rattle.flow_rules.specs.declared.ids.FlowId.{FlowId}
use Rattle.std.proofs.Common.{ap, arith, refl, subst, sym, ◌∙◌}
use Rattle.std.specs.Option.{option_map_or}
use Rattle.std.specs.Prelude.{Bool, IfSome, List, Option, Some, [], false, not, set, slice_get, suc, true, zero, ℕ, ◌&&◌, ◌+◌, ◌-◌, ◌<◌, ◌^◌, ◌∷◌, ◌≡◌, ◌≤◌}
use Rattle.wire_flows.proofs.Cases.{not_both}
use Rattle.wire_flows.proofs.Crossings.{high_of, low_of}
use Rattle.wire_flows.proofs.Found.{flow_is, name_is}
use Rattle.wire_flows.proofs.Freed.{found_at, place_sound}
use Rattle.wire_flows.proofs.Stepped.{IsMoving, come, first_places, gained, gone, later_places}
use Rattle.wire_flows.proofs.Stepping.{above_of}
use Rattle.wire_flows.proofs.Steps.{Goes, before_last, buffer_same, is_moving, next}
use Rattle.wire_flows.proofs.Watched.{own_few, own_known, own_watchers}
use Rattle.wire_flows.specs.Flows.{Flows, flow_in, goes_to}
use Rattle.wire_flows.specs.Moves.{MayCross, buffer_at, is_high, is_low}
use Rattle.wire_flows.specs.Sound.{IsSound, MarksAre, buffer_of}
use Rattle.wm_buffer.specs.declared.buffer.Shifted.{Shifted}
use Rattle.flow_rules.specs.declared.ids.BufferId.TheVariants as buffer

second : (a b : Bool) → (not a && b) ≡ true → b ≡ true
second true b e = cc
second false b e = e

first : (a b : Bool) → (a && not b) ≡ true → a ≡ true
first true b e = refl
first false b e = cc

-- a place that is above isn't a Hold
above_source : (kind : StageKind) (place : Place) → IsWithinKind kind place → place.above ≡ true → is_source kind ≡ true
above_source stage.Hold place k above = not_both place.above above k.0
above_source (stage.Meter rate) place k above = refl
above_source stage.Send place k above = refl

stage_buffer : (h : FlowId) (p : ℕ) (kind : StageKind) → (kind ≡ stage.Send → ⊥) → buffer_of h p (kind_of kind) ≡ buffer.Stage h p
stage_buffer h p stage.Hold e = refl
stage_buffer h p (stage.Meter rate) e = refl
stage_buffer h p stage.Send e = absurd (e refl)

module _ (flows : Flows) (s : IsSound flows) (f : FlowId) (flow : Flow) (found : flow_in flows f ≡ Some flow) (n : ℕ) (shifted : Shifted) (overflow : Bool) where
  own : IsFlowOf f.exchange f.back flows.exchanges.time flow
  own = flow_is flows.exchanges f flow s.exchanges found

  name : flow.chain.flow ≡ f
  name = name_is flows.exchanges f flow s.exchanges found

  marks : MarksAre flows.gates flow
  marks = subst (λ o. IfSome o (MarksAre flows.gates)) found (s.marks f)

  -- what rose is a source
  source_first : (g : Goes flows.gates (goes_to flows f) flow zero n shifted overflow) (time : ℕ) → IsFlowOf f.exchange f.back time (moved zero n flow) → is_high shifted.to ≡ true
      → is_source (next flows.gates (goes_to flows f) flow zero n shifted overflow g f.exchange f.back flows.exchanges.time own marks).kind ≡ true
  source_first g time after rises =
      let y = next flows.gates (goes_to flows f) flow zero n shifted overflow g f.exchange f.back flows.exchanges.time own marks in
      let k = is_moving flows.gates (goes_to flows f) flow zero n shifted overflow g f.exchange f.back flows.exchanges.time own marks in
      let z = gained flow n y k in
      let at : slice_get (moved zero n flow).chain.places zero ≡ Some z = ap (λ ps. slice_get ps zero) (first_places flow n y k) ∙ get-set_same flow.chain.places zero y z k.at in
      let rose : is_high shifted.to ≡ (not y.above && z.above) = ap (λ (s : Shifted). is_high s.to) g.crossed ∙ (high_of (above_at flow.chain (zero + 1)) (above_at (moved zero n flow).chain (zero + 1))
      ∙ (λ i. not (above_of flow.chain.places zero y k.at i) && above_of (moved zero n flow).chain.places zero z at i)) in
      let whole : IsPlace z = place_sound (moved zero n flow).chain.places zero z after.sound.chain.each at in
      above_source y.kind z whole.kind (second y.above z.above (sym rose ∙ rises))

  source_later : (i : ℕ) (g : Goes flows.gates (goes_to flows f) flow (suc i) n shifted overflow) (time : ℕ) → IsFlowOf f.exchange f.back time (moved (suc i) n flow) → is_high shifted.to ≡ true
      → is_source (next flows.gates (goes_to flows f) flow (suc i) n shifted overflow g f.exchange f.back flows.exchanges.time own marks).kind ≡ true
  source_later i g time after rises =
      let y = next flows.gates (goes_to flows f) flow (suc i) n shifted overflow g f.exchange f.back flows.exchanges.time own marks in
      let k = is_moving flows.gates (goes_to flows f) flow (suc i) n shifted overflow g f.exchange f.back flows.exchanges.time own marks in
      let here = found_at flow.chain.places i (less i (last_place flow) (before_last flows.gates (goes_to flows f) flow (suc i) n shifted overflow g f.exchange f.back flows.exchanges.time own marks)) in
      let a = gone flow i n here.0 y here.1 k in
      let z = come flow i n here.0 y here.1 k in
      let one : suc i + 1 ≡ suc (suc i) = omega arith in
      let there : slice_get (set flow.chain.places i a) (suc i) ≡ Some y = get-set_other flow.chain.places i (suc i) a (apart_back i) ∙ k.at in
      let at : slice_get (moved (suc i) n flow).chain.places (suc i) ≡ Some z = ap (λ ps. slice_get ps (suc i)) (later_places flow i n here.0 y here.1 k) ∙ get-set_same (set flow.chain.places i a) (suc i) y z there in
      let rose : is_high shifted.to ≡ (not y.above && z.above) = ap (λ (s : Shifted). is_high s.to) g.crossed ∙ (high_of (above_at flow.chain (suc i + 1)) (above_at (moved (suc i) n flow).chain (suc i + 1))
      ∙ (λ j. not ((ap (above_at flow.chain) one ∙ above_of flow.chain.places (suc i) y k.at) j) && (ap (above_at (moved (suc i) n flow).chain) one ∙ above_of (moved (suc i) n flow).chain.places (suc i) z at) j)) in
      let whole : IsPlace z = place_sound (moved (suc i) n flow).chain.places (suc i) z after.sound.chain.each at in
      above_source y.kind z whole.kind (second y.above z.above (sym rose ∙ rises))
    where
      less : (i l : ℕ) → suc i < l → i < l
      less i l h = omega (arith, h)

      apart_back : (i : ℕ) → suc i ≡ i → ⊥
      apart_back i e = absurd (omega (arith, e))

  any_source : (p : ℕ) (g : Goes flows.gates (goes_to flows f) flow p n shifted overflow) (time : ℕ) → IsFlowOf f.exchange f.back time (moved p n flow) → is_high shifted.to ≡ true
      → is_source (next flows.gates (goes_to flows f) flow p n shifted overflow g f.exchange f.back flows.exchanges.time own marks).kind ≡ true
  any_source zero g time after rises = source_first g time after rises
  any_source (suc i) g time after rises = source_later i g time after rises

  -- what drained is a Meter that was above, which the flow alone watches
  pub record Drained (p : ℕ) : Type 0 where
    pub high : is_marked flows.gates (buffer.Stage f p) ≡ true
    pub watched : watchers_of flows.gates (buffer.Stage f p) ≡ f ∷ []

  pub any_drained : (p : ℕ) (g : Goes flows.gates (goes_to flows f) flow p n shifted overflow) → is_low shifted.from ≡ true → Drained p
  any_drained zero g low = not_both (is_low shifted.from) low (ap (λ (s : Shifted). is_low s.from) g.crossed)
  any_drained (suc i) g low =
      let y = next flows.gates (goes_to flows f) flow (suc i) n shifted overflow g f.exchange f.back flows.exchanges.time own marks in
      let k = is_moving flows.gates (goes_to flows f) flow (suc i) n shifted overflow g f.exchange f.back flows.exchanges.time own marks in
      let within = before_last flows.gates (goes_to flows f) flow (suc i) n shifted overflow g f.exchange f.back flows.exchanges.time own marks in
      let here = found_at flow.chain.places i (less i (last_place flow) within) in
      let l = here.0 in
      let at = here.1 in
      let was : is_low shifted.from ≡ (above_at flow.chain (suc i) && not (above_at (moved (suc i) n flow).chain (suc i))) = ap (λ (s : Shifted). is_low s.from) g.crossed ∙ low_of (above_at flow.chain (suc i)) (above_at (moved (suc i) n flow).chain (suc i)) in
      let above : l.above ≡ true = sym (above_of flow.chain.places i l at) ∙ first (above_at flow.chain (suc i)) (above_at (moved (suc i) n flow).chain (suc i)) (sym was ∙ low) in
      let whole : IsPlace l = place_sound flow.chain.places i l own.sound.chain.each at in
      let source : is_source l.kind ≡ true = above_source l.kind l whole.kind above in
      let other : l.kind ≡ stage.Send → ⊥ = λ is. not_last flow.chain.places i within k.ends (ap (λ (o : Option Place). option_map_or (λ place. place.kind) o stage.Hold) at ∙ is) in
      record {
        high = ap (is_marked flows.gates) (sym (stage_buffer flow.chain.flow (suc i) l.kind other ∙ ap (λ h. buffer.Stage h (suc i)) name)) ∙ (marks.each (suc i) l at source ∙ above);
        watched = ap (watchers_of flows.gates) (sym (stage_buffer f (suc i) l.kind other)) ∙ own_watchers flows s f flow found i l at source;
      }
    where
      less : (i l : ℕ) → suc i < l → i < l
      less i l h = omega (arith, h)

  pub may_cross : (p : ℕ) (g : Goes flows.gates (goes_to flows f) flow p n shifted overflow) (time : ℕ) → IsFlowOf f.exchange f.back time (moved p n flow) → MayCross f flow p shifted flows.gates
  may_cross p g time after =
      let y = next flows.gates (goes_to flows f) flow p n shifted overflow g f.exchange f.back flows.exchanges.time own marks in
      let k = is_moving flows.gates (goes_to flows f) flow p n shifted overflow g f.exchange f.back flows.exchanges.time own marks in
      let within = before_last flows.gates (goes_to flows f) flow p n shifted overflow g f.exchange f.back flows.exchanges.time own marks in
      let named : buffer_at f flow (p + 1) ≡ buffer_of f (suc p) (kind_of y.kind) = buffer_same f flow p y k.ends k.at within in
      record {
        known = λ rises. ap (is_known flows.gates) named ∙ own_known flows s f flow found p y k.at (any_source p g time after rises);
        low = λ rises. ap (is_marked flows.gates) (named ∙ ap (λ h. buffer_of h (suc p) (kind_of y.kind)) (sym name)) ∙ (marks.each (suc p) y k.at (any_source p g time after rises) ∙ k.low (any_source p g time after rises));
        high = λ low. (any_drained p g low).high;
        few = own_few flows s f (buffer.Stage f p) (same_flow-refl f);
        small = few p (last_place flow) within own.sound.chain.few.1;
      }
    where
      few : (p l : ℕ) → p < l → l ≤ 9 → p < 2 ^ 32 - 1
      few p l a b = omega (arith, a, b)
