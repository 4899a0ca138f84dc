-- What a step leaves, whatever it was.
use Rattle.exchange_core.specs.Changes.{ChangesFlow}
use Rattle.exchange_core.specs.Effects.{moved}
use Rattle.exchange_core.specs.Exchange.{IsFlowOf}
use Rattle.exchange_core.specs.Exchanges.{Exchanges, IsSound as AreSoundExchanges, flow_at}
use Rattle.exchange_core.specs.Flow.{Flow, last_place}
use Rattle.exchange_core.specs.Moves.{next_step, stepped}
use Rattle.exchange_core.specs.declared.step.Step.{Step}
use Rattle.exchange_core.specs.declared.step.Step.TheVariants as step
use Rattle.filter_chain.specs.Place.{Place}
use Rattle.flow_gate.proofs.SameIds.{same_flow-refl, same_flow_exact}
use Rattle.flow_gate.specs.Board.{Board, IsSound as AreSoundGates, is_known, is_marked, watchers_of}
use Rattle.flow_gate.specs.Ids.{same_flow}
use Rattle.flow_rules.specs.declared.ids.FlowId.{FlowId}
use Rattle.io_ports.specs.declared.octets.NoMemory.{NoMemory}
use Rattle.std.proofs.Common.{ap, arith, refl, subst, sym, ◌∙◌}
use Rattle.std.proofs.lemmas.Bool.{false≢true}
use Rattle.std.proofs.lemmas.Option.{none-some, same_Some}
use Rattle.std.specs.Prelude.{Bool, Err, IfSome, List, None, Ok, OnErr, Option, Result, Some, [], false, if◌then◌else◌, is_some, length, option_map, set, suc, true, zero, ℕ, ◌+◌, ◌-◌, ◌<◌, ◌==◌, ◌∷◌, ◌≡◌}
use Rattle.wire_flows.proofs.Answering.{keeps_same}
use Rattle.wire_flows.proofs.Cases.{by_case}
use Rattle.wire_flows.proofs.Crossable.{any_drained, may_cross}
use Rattle.wire_flows.proofs.Found.{flow_after, flow_is}
use Rattle.wire_flows.proofs.Freed.{found_at}
use Rattle.wire_flows.proofs.Leaving.{Leaves, idles, leaves}
use Rattle.wire_flows.proofs.Stepped.{come, first_places, gained, gone, later_places}
use Rattle.wire_flows.proofs.Stepping.{still_stays}
use Rattle.wire_flows.proofs.Steps.{Goes, before_last, goes_of, is_moving, next}
use Rattle.wire_flows.specs.Begins.{Crosses, lows_left}
use Rattle.wire_flows.specs.Flows.{Flows, flow_in, goes_to, left_in}
use Rattle.wire_flows.specs.Moves.{MayCross, StepCrosses, StepMayCross, is_high, is_low, outcome_of}
use Rattle.wire_flows.specs.Sound.{IsSound, MarksAre}
use Rattle.wire_flows.specs.declared.moving.Outcome.{Outcome}
use Rattle.wire_flows.specs.declared.moving.Outcome.TheVariants as outcome
use Rattle.wm_buffer.specs.declared.buffer.Shifted.{Shifted}
use Rattle.flow_rules.specs.declared.ids.BufferId.TheVariants as buffer

same_length : (xs : List Place) (i : ℕ) (y : Place) → length (set xs i y) ≡ length xs
same_length [] i y = refl
same_length (x ∷ xs) zero y = refl
same_length (x ∷ xs) (suc i) y = let rest = same_length xs i y in omega (arith, rest)

-- ---- what the exchanges answered
pub absent : (o : Option Flow) (there : Bool) → there ≡ false → (is_some o ≡ true → there ≡ true) → o ≡ None
absent None there lacks is = refl
absent (Some flow) there lacks is = absurd (false≢true (sym lacks ∙ is refl))

pub record StepIs (g : Flow → Step) (o : Option Flow) (t : Step) : Type 0 where
  pub flow : Flow
  pub found : o ≡ Some flow
  pub is : g flow ≡ t

pub step_is : (g : Flow → Step) (t : Step) (o : Option Flow) → Some t ≡ option_map g o → StepIs g o t
step_is g t None is = absurd (none-some t (sym is))
step_is g t (Some flow) is = record { flow = flow; found = refl; is = same_Some (g flow) t (sym is) }

pub err_of : (old : Flows) (ex : Exchanges) (r : Result Outcome NoMemory) → ex ≡ old.exchanges → OnErr r (◌≡◌ {A = Flows} (record { exchanges = ex; gates = old.gates }) old)
err_of old ex (Ok o) e = tt
err_of old ex (Err x) e = ap {B = Flows} (λ x. record { exchanges = x; gates = old.gates }) e

-- ---- where nothing happened
pub same_leaves : (f : FlowId) (old : Flows) (ex : Exchanges) → IsSound old → ex ≡ old.exchanges → Leaves f outcome.Still old (record { exchanges = ex; gates = old.gates })
same_leaves f old ex s e = subst (λ x. Leaves f outcome.Still old (record { exchanges = x; gates = old.gates })) (sym e) (record {
  moves = tt;
  live = (keeps_same old).live;
  left = record {
    left = λ g. by_case (same_flow f g)
        (λ same. sym (ap (left_in old) (same_flow_exact f g same)) ∙ (none (left_in old f) ∙ sym (ap (λ b. if b then left_in old f - 0 else left_in old g) same)))
        (λ other. sym (ap (λ b. if b then left_in old f - 0 else left_in old g) other));
  };
  enough = omega arith;
  time = refl;
  writes = (keeps_same old).writes;
  lows = λ b. refl;
  less = omega arith;
  sound = s;
})
  where
    none : (n : ℕ) → n ≡ n - 0
    none n = omega arith

-- ---- a flow with as many places has the same buffers
pub outcome_same : (f : FlowId) (flow flow' : Flow) (s : Step) → last_place flow' ≡ last_place flow → outcome_of f flow' s ≡ outcome_of f flow s
outcome_same f flow flow' step.Still e = refl
outcome_same f flow flow' step.TooLarge e = refl
outcome_same f flow flow' (step.Moved p n shifted overflow) e = ap (λ l. outcome.Moved (record {
  place = p;
  n = n;
  rose = if is_high shifted.to then Some (if p + 1 == l then buffer.Send f else buffer.Stage f (p + 1)) else None;
  drained = if is_low shifted.from then Some (buffer.Stage f p) else None;
  overflow = overflow;
})) e

pub crosses_same : (f : FlowId) (flow flow' : Flow) (s : Step) (old new : Board) → last_place flow' ≡ last_place flow → StepCrosses f flow' s old new → StepCrosses f flow s old new
crosses_same f flow flow' step.Still old new e t = t
crosses_same f flow flow' step.TooLarge old new e t = t
crosses_same f flow flow' (step.Moved p n shifted overflow) old new e t =
    subst (λ l. Crosses (is_high shifted.to) (if p + 1 == l then buffer.Send f else buffer.Stage f (p + 1)) (is_low shifted.from) (buffer.Stage f p) (lows_left overflow (watchers_of old (buffer.Stage f p))) old new) e t

may_same : (f : FlowId) (flow flow' : Flow) (p : ℕ) (shifted : Shifted) (board : Board) → last_place flow' ≡ last_place flow → MayCross f flow p shifted board → MayCross f flow' p shifted board
may_same f flow flow' p shifted board e m = record {
  known = λ rises. subst (λ l. is_known board (if p + 1 == l then buffer.Send f else buffer.Stage f (p + 1)) ≡ true) (sym e) (m.known rises);
  low = λ rises. ap (λ l. is_marked board (if p + 1 == l then buffer.Send f else buffer.Stage f (p + 1))) e ∙ m.low rises;
  high = m.high;
  few = m.few;
  small = m.small;
}

-- ---- a step
module _ (f : FlowId) (old : Flows) (ex : Exchanges) (s : IsSound old) (flow : Flow) (found : flow_in old f ≡ Some flow) (sound : AreSoundExchanges ex)
    (c : ChangesFlow f (stepped old.gates (goes_to old f)) old.exchanges ex) where
  own : IsFlowOf f.exchange f.back old.exchanges.time flow
  own = flow_is old.exchanges f flow s.exchanges found

  marks : MarksAre old.gates flow
  marks = subst (λ o. IfSome o (MarksAre old.gates)) found (s.marks f)

  moved_last : (p n : ℕ) (shifted : Shifted) (overflow : Bool) → Goes old.gates (goes_to old f) flow p n shifted overflow → last_place (moved p n flow) ≡ last_place flow
  moved_last zero n shifted overflow g =
      let y = next old.gates (goes_to old f) flow zero n shifted overflow g f.exchange f.back old.exchanges.time own marks in
      let k = is_moving old.gates (goes_to old f) flow zero n shifted overflow g f.exchange f.back old.exchanges.time own marks in
      ap length (first_places flow n y k) ∙ same_length flow.chain.places zero (gained flow n y k)
  moved_last (suc i) n shifted overflow g =
      let y = next old.gates (goes_to old f) flow (suc i) n shifted overflow g f.exchange f.back old.exchanges.time own marks in
      let k = is_moving old.gates (goes_to old f) flow (suc i) n shifted overflow g f.exchange f.back old.exchanges.time own marks in
      let here = found_at flow.chain.places i (less i (last_place flow) (before_last old.gates (goes_to old f) flow (suc i) n shifted overflow g f.exchange f.back old.exchanges.time own marks)) in
      let a = gone flow i n here.0 y here.1 k in
      let z = come flow i n here.0 y here.1 k in
      ap length (later_places flow i n here.0 y here.1 k) ∙ (same_length (set flow.chain.places i a) (suc i) z ∙ same_length flow.chain.places i a)
    where
      less : (i l : ℕ) → suc i < l → i < l
      less i l h = omega (arith, h)

  no_still : next_step old.gates (goes_to old f) flow ≡ step.Still → (p n : ℕ) (shifted : Shifted) (overflow : Bool) → next_step old.gates (goes_to old f) flow ≡ step.Moved p n shifted overflow → ⊥
  no_still e p n shifted overflow is = let bad : step.Still ≡ step.Moved p n shifted overflow = sym e ∙ is in cc

  no_large : next_step old.gates (goes_to old f) flow ≡ step.TooLarge → (p n : ℕ) (shifted : Shifted) (overflow : Bool) → next_step old.gates (goes_to old f) flow ≡ step.Moved p n shifted overflow → ⊥
  no_large e p n shifted overflow is = let bad : step.TooLarge ≡ step.Moved p n shifted overflow = sym e ∙ is in cc

  -- the flow as it is then
  pub after_is : flow_at ex f ≡ Some (stepped old.gates (goes_to old f) flow)
  after_is = flow_after f (stepped old.gates (goes_to old f)) old.exchanges ex c f ∙ (ap (λ b. if b then option_map (stepped old.gates (goes_to old f)) (flow_in old f) else flow_in old f) (same_flow-refl f) ∙ ap (option_map (stepped old.gates (goes_to old f))) found)

  pub stepped_last : (t : Step) → next_step old.gates (goes_to old f) flow ≡ t → last_place (stepped old.gates (goes_to old f) flow) ≡ last_place flow
  stepped_last step.Still is = ap last_place (still_stays old.gates (goes_to old f) flow (no_still is))
  stepped_last step.TooLarge is = ap last_place (still_stays old.gates (goes_to old f) flow (no_large is))
  stepped_last (step.Moved p n shifted overflow) is =
      let g = goes_of old.gates (goes_to old f) flow p n shifted overflow is in
      ap last_place g.after ∙ moved_last p n shifted overflow g

  may_old : (t : Step) → next_step old.gates (goes_to old f) flow ≡ t → StepMayCross f flow t old.gates
  may_old step.Still is = tt
  may_old step.TooLarge is = tt
  may_old (step.Moved p n shifted overflow) is =
      let g = goes_of old.gates (goes_to old f) flow p n shifted overflow is in
      may_cross old s f flow found n shifted overflow p g ex.time (subst (λ x. IsFlowOf f.exchange f.back ex.time x) g.after (flow_is ex f (stepped old.gates (goes_to old f) flow) sound after_is))

  may_new : (t : Step) (flow' : Flow) → last_place flow' ≡ last_place flow → StepMayCross f flow t old.gates → StepMayCross f flow' t old.gates
  may_new step.Still flow' e m = tt
  may_new step.TooLarge flow' e m = tt
  may_new (step.Moved p n shifted overflow) flow' e m = may_same f flow flow' p shifted old.gates e m

  -- the gates may be told of it
  pub may_step : (t : Step) → next_step old.gates (goes_to old f) flow ≡ t → IfSome (flow_at ex f) (λ x. StepMayCross f x t old.gates)
  may_step t is = subst (λ o. IfSome o (λ x. StepMayCross f x t old.gates)) (sym after_is) (may_new t (stepped old.gates (goes_to old f) flow) (stepped_last t is) (may_old t is))

  -- what is answered, by the flow as it was
  pub answer_is : (t : Step) (o : Outcome) → next_step old.gates (goes_to old f) flow ≡ t → IfSome (flow_at ex f) (λ x. o ≡ outcome_of f x t) → o ≡ outcome_of f flow t
  answer_is t o is a = subst (λ q. IfSome q (λ x. o ≡ outcome_of f x t)) after_is a ∙ outcome_same f flow (stepped old.gates (goes_to old f) flow) t (stepped_last t is)

  crossed_is : (t : Step) (board : Board) → next_step old.gates (goes_to old f) flow ≡ t → IfSome (flow_at ex f) (λ x. StepCrosses f x t old.gates board) → StepCrosses f flow t old.gates board
  crossed_is t board is a = crosses_same f flow (stepped old.gates (goes_to old f) flow) t old.gates board (stepped_last t is) (subst (λ q. IfSome q (λ x. StepCrosses f x t old.gates board)) after_is a)

  by_step : (t : Step) (board : Board) → AreSoundGates board → next_step old.gates (goes_to old f) flow ≡ t → StepCrosses f flow t old.gates board → Leaves f (outcome_of f flow t) old (record { exchanges = ex; gates = board })
  by_step step.Still board gates is t = subst (λ b. Leaves f outcome.Still old (record { exchanges = ex; gates = b })) (sym t)
      (idles f old ex s flow found sound c outcome.Still (record { moves = tt; left = refl; taken = refl; lows = λ b fs. refl })
      (still_stays old.gates (goes_to old f) flow (no_still is)))
  by_step step.TooLarge board gates is t = subst (λ b. Leaves f outcome.TooLarge old (record { exchanges = ex; gates = b })) (sym t)
      (idles f old ex s flow found sound c outcome.TooLarge (record { moves = tt; left = refl; taken = refl; lows = λ b fs. refl })
      (still_stays old.gates (goes_to old f) flow (no_large is)))
  by_step (step.Moved p n shifted overflow) board gates is t =
      leaves f old ex s flow found sound c board gates p n shifted overflow is t
      (λ low. (any_drained old s f flow found n shifted overflow p (goes_of old.gates (goes_to old f) flow p n shifted overflow is) low).watched)

  -- all of it
  pub step_leaves : (t : Step) (o : Outcome) (board : Board) → AreSoundGates board → next_step old.gates (goes_to old f) flow ≡ t → IfSome (flow_at ex f) (λ x. o ≡ outcome_of f x t)
      → IfSome (flow_at ex f) (λ x. StepCrosses f x t old.gates board) → Leaves f o old (record { exchanges = ex; gates = board })
  step_leaves t o board gates is a k = subst (λ q. Leaves f q old (record { exchanges = ex; gates = board })) (sym (answer_is t o is a)) (by_step t board gates is (crossed_is t board is k))
