-- What a step leaves, all together.
use Rattle.exchange_core.proofs.StageSources.{not_last}
use Rattle.exchange_core.specs.Changes.{ChangesFlow}
use Rattle.exchange_core.specs.Effects.{moved}
use Rattle.exchange_core.specs.Exchange.{IsFlowOf}
use Rattle.exchange_core.specs.Exchanges.{Exchanges, IsSound as AreSoundExchanges}
use Rattle.exchange_core.specs.Flow.{Flow, last_place}
use Rattle.exchange_core.specs.Moves.{crossed_by, last_free, left_from, may_release, next_step, overflows, step_from, stepped}
use Rattle.exchange_core.specs.declared.step.Step.{Step}
use Rattle.exchange_core.specs.declared.step.Step.TheVariants as step
use Rattle.filter_chain.proofs.Changes.{get-set_other, get-set_same}
use Rattle.filter_chain.specs.Chain.{above_at, place_at}
use Rattle.filter_chain.specs.Place.{Place, kind_of}
use Rattle.filter_chain.specs.Release.{overfills}
use Rattle.filter_chain.specs.declared.stage.StageKind.{StageKind}
use Rattle.filter_chain.specs.declared.stage.StageKind.TheVariants as stage
use Rattle.flow_gate.proofs.SameIds.{same_buffer-comm, same_flow-refl}
use Rattle.flow_gate.specs.Board.{Board, IsSound as AreSoundGates, is_marked, pending_on, watchers_of}
use Rattle.flow_gate.specs.Ids.{is_own, same_buffer, same_flow}
use Rattle.flow_rules.specs.declared.ids.BufferId.{BufferId}
use Rattle.flow_rules.specs.declared.ids.FlowId.{FlowId}
use Rattle.std.proofs.Common.{ap, arith, refl, subst, sym, ◌∙◌}
use Rattle.std.proofs.lemmas.Bool.Decides.{nat_tests}
use Rattle.std.proofs.lemmas.Option.{none-some, same_Some, slice_get_within}
use Rattle.std.specs.Option.{option_map_or}
use Rattle.std.specs.Prelude.{Bool, List, None, Option, Some, [], false, if◌then◌else◌, length, not, set, slice_get, suc, true, zero, ℕ, ◌&&◌, ◌*◌, ◌+◌, ◌-◌, ◌<◌, ◌==◌, ◌||◌, ◌∷◌, ◌≡◌, ◌≤◌}
use Rattle.std.proofs.lemmas.List.{length-drop}
use Rattle.wire_flows.proofs.Cases.{by_case, not_both}
use Rattle.wire_flows.specs.Measure.{flow_way}
use Rattle.wire_flows.proofs.Crossings.{high_of, low_of}
use Rattle.wire_flows.proofs.Found.{flow_is, name_is}
use Rattle.wire_flows.proofs.Freed.{found_at, place_sound}
use Rattle.wire_flows.proofs.Kept.{KeepsFlow, KeepsGates}
use Rattle.wire_flows.proofs.Owners.{own_differs}
use Rattle.wire_flows.proofs.Stepped.{IsMoving, come, first_kept, first_places, first_way, gained, gone, later_kept, later_places, later_way}
use Rattle.wire_flows.proofs.Steps.{Goes, before_last, buffer_same, came, first_marks, goes_of, is_moving, later_marks, next, next_of}
use Rattle.wire_flows.specs.Begins.{Crosses}
use Rattle.wire_flows.specs.Flows.{Flows, flow_in, goes_to}
use Rattle.wire_flows.specs.Moves.{buffer_at, is_high, is_low}
use Rattle.wire_flows.specs.Sound.{IsSound, IsWireFlow, MarksAre, buffer_of}
use Rattle.wm_buffer.specs.Watermark.{crossing}
use Rattle.wm_buffer.specs.declared.buffer.Shifted.{Shifted}
use Rattle.flow_rules.specs.declared.ids.BufferId.TheVariants as buffer

-- where nothing moves the flow stays
pub still_stays : (board : Board) (to : Option ℕ) (flow : Flow) → ((p n : ℕ) (shifted : Shifted) (overflow : Bool) → next_step board to flow ≡ step.Moved p n shifted overflow → ⊥) → stepped board to flow ≡ flow
still_stays board to flow none = by_place (last_free board to flow) refl
  where
    by_place : (o : Option ℕ) → last_free board to flow ≡ o → option_map_or (λ p. left_from flow p (may_release board flow p)) o flow ≡ flow
    by_place None e = refl
    by_place (Some p) e = by_case (overfills flow.chain (p + 1) (may_release board flow p))
        (λ over. ap (λ b. if b then flow else moved p (may_release board flow p) flow) over)
        (λ fits. absurd (none p (may_release board flow p) (crossed_by flow (moved p (may_release board flow p) flow) p) (overflows (moved p (may_release board flow p) flow) (p + 1)) (ap (λ o. option_map_or (λ q. step_from flow q (may_release board flow q)) o step.Still) e ∙ ap (λ b. if b then step.TooLarge else step.Moved p (may_release board flow p) (crossed_by flow (moved p (may_release board flow p) flow) p) (overflows (moved p (may_release board flow p) flow) (p + 1))) fits)))

pub flow_stays : (board : Board) (flow : Flow) → KeepsFlow board board flow flow
flow_stays board flow = record { way = record { own = refl; kinds = refl; last = refl }; wire = λ w. w; marks = λ m. m }

-- the same crossings by other names
pub cast : (rose rose' : Bool) (b b' : BufferId) (drained drained' : Bool) (c c' : BufferId) (lows : List FlowId) (old new : Board) → rose ≡ rose' → b ≡ b' → drained ≡ drained' → c ≡ c' → Crosses rose b drained c lows old new → Crosses rose' b' drained' c' lows old new
cast rose rose' b b' drained drained' c c' lows old new e1 e2 e3 e4 x = record {
  flows = x.flows;
  watched = x.watched;
  buffers = x.buffers;
  watchers = x.watchers;
  marks = λ d. x.marks d ∙ (λ i. not (e3 i && same_buffer (e4 i) d) && ((e1 i && same_buffer (e2 i) d) || is_marked old d));
  pending = λ d. x.pending d ∙ (λ i. if e3 i && same_buffer (e4 i) d then lows else pending_on old d);
}

pub above_of : (places : List Place) (i : ℕ) (x : Place) → slice_get places i ≡ Some x → option_map_or (λ (place : Place). place.above) (slice_get places i) false ≡ x.above
above_of places i x at = ap (λ (o : Option Place). option_map_or (λ place. place.above) o false) at

-- ---- the flow that moved
module _ (f : FlowId) (board board' : Board) (to : Option ℕ) (flow : Flow) (n : ℕ) (shifted : Shifted) (overflow : Bool) (lows : List FlowId) (x time : ℕ) (side : Bool) (own : IsFlowOf x side time flow) (name : flow.chain.flow ≡ f)
    (m : MarksAre board flow) (w : IsWireFlow flow) where
  first_moved : (g : Goes board to flow zero n shifted overflow) → Crosses (is_high shifted.to) (buffer_at f flow (zero + 1)) (is_low shifted.from) (buffer.Stage f zero) lows board board' → KeepsFlow board board' flow (moved zero n flow)
  first_moved g t =
      let y = next board to flow zero n shifted overflow g x side time own m in
      let k = is_moving board to flow zero n shifted overflow g x side time own m in
      let z = gained flow n y k in
      let rose : is_high shifted.to ≡ (not y.above && z.above) = ap (λ (s : Shifted). is_high s.to) g.crossed ∙ (high_of (above_at flow.chain (zero + 1)) (above_at (moved zero n flow).chain (zero + 1))
      ∙ (λ i. not (above_of flow.chain.places zero y k.at i) && (ap (λ ps. option_map_or (λ (place : Place). place.above) (slice_get ps zero) false) (first_places flow n y k) ∙ above_of (set flow.chain.places zero z) zero z (get-set_same flow.chain.places zero y z k.at)) i)) in
      let low : is_low shifted.from ≡ false = ap (λ (s : Shifted). is_low s.from) g.crossed in
      let named : buffer_at f flow (zero + 1) ≡ buffer_of flow.chain.flow 1 (kind_of y.kind) = buffer_same f flow zero y k.ends k.at (before_last board to flow zero n shifted overflow g x side time own m) ∙ ap (λ h. buffer_of h 1 (kind_of y.kind)) (sym name) in
      first_kept flow n y k board board' (came board to flow zero n shifted overflow g x side time own m w.headed)
      (first_marks board board' flow n y k m (buffer.Stage f zero) lows (cast _ _ _ _ _ _ _ _ lows board board' rose named low refl t))

  later_moved : (i : ℕ) (g : Goes board to flow (suc i) n shifted overflow) → Crosses (is_high shifted.to) (buffer_at f flow (suc i + 1)) (is_low shifted.from) (buffer.Stage f (suc i)) lows board board' → KeepsFlow board board' flow (moved (suc i) n flow)
  later_moved i g t =
      let y = next board to flow (suc i) n shifted overflow g x side time own m in
      let k = is_moving board to flow (suc i) n shifted overflow g x side time own m in
      let within = before_last board to flow (suc i) n shifted overflow g x side time own m in
      let here = found_at flow.chain.places i (less i (last_place flow) within) in
      let l = here.0 in
      let at = here.1 in
      let a = gone flow i n l y at k in
      let z = come flow i n l y at k in
      let one : suc i + 1 ≡ suc (suc i) = omega arith in
      let new : (moved (suc i) n flow).chain.places ≡ set (set flow.chain.places i a) (suc i) z = later_places flow i n l y at k in
      let there : slice_get (set flow.chain.places i a) (suc i) ≡ Some y = get-set_other flow.chain.places i (suc i) a (apart_back i) ∙ k.at in
      let fed : slice_get (set (set flow.chain.places i a) (suc i) z) (suc i) ≡ Some z = get-set_same (set flow.chain.places i a) (suc i) y z there in
      let left : slice_get (set (set flow.chain.places i a) (suc i) z) i ≡ Some a = get-set_other (set flow.chain.places i a) (suc i) i z (apart_next i) ∙ get-set_same flow.chain.places i l a at in
      let rose : is_high shifted.to ≡ (not y.above && z.above) = ap (λ (s : Shifted). is_high s.to) g.crossed ∙ (high_of (above_at flow.chain (suc i + 1)) (above_at (moved (suc i) n flow).chain (suc i + 1))
      ∙ (λ j. not ((ap (above_at flow.chain) one ∙ above_of flow.chain.places (suc i) y k.at) j) && (ap (above_at (moved (suc i) n flow).chain) one ∙ (ap (λ ps. option_map_or (λ (place : Place). place.above) (slice_get ps (suc i)) false) new ∙ above_of (set (set flow.chain.places i a) (suc i) z) (suc i) z fed)) j)) in
      let low : is_low shifted.from ≡ (l.above && not a.above) = ap (λ (s : Shifted). is_low s.from) g.crossed ∙ (low_of (above_at flow.chain (suc i)) (above_at (moved (suc i) n flow).chain (suc i))
      ∙ (λ j. above_of flow.chain.places i l at j && not ((ap (λ ps. option_map_or (λ (place : Place). place.above) (slice_get ps i) false) new ∙ above_of (set (set flow.chain.places i a) (suc i) z) i a left) j))) in
      let named : buffer_at f flow (suc i + 1) ≡ buffer_of flow.chain.flow (suc (suc i)) (kind_of y.kind) = buffer_same f flow (suc i) y k.ends k.at within ∙ ap (λ h. buffer_of h (suc (suc i)) (kind_of y.kind)) (sym name) in
      let own_name : buffer.Stage f (suc i) ≡ buffer_of flow.chain.flow (suc i) (kind_of l.kind) = sym (stage_of flow.chain.flow (suc i) l.kind (λ is. not_last flow.chain.places i within k.ends (ap (λ (o : Option Place). option_map_or (λ place. place.kind) o stage.Hold) at ∙ is)) ∙ ap (λ h. buffer.Stage h (suc i)) name) in
      later_kept flow i n l y at k board board' (came board to flow (suc i) n shifted overflow g x side time own m w.headed)
      (later_marks board board' flow i n l y at k m (place_sound flow.chain.places i l own.sound.chain.each at) lows (cast _ _ _ _ _ _ _ _ lows board board' rose named low own_name t))
    where
      less : (i l : ℕ) → suc i < l → i < l
      less i l h = omega (arith, h)

      apart_back : (i : ℕ) → suc i ≡ i → ⊥
      apart_back i e = absurd (omega (arith, e))

      apart_next : (i : ℕ) → i ≡ suc i → ⊥
      apart_next i e = absurd (omega (arith, e))

      stage_of : (h : FlowId) (p : ℕ) (kind : StageKind) → (kind ≡ stage.Send → ⊥) → buffer_of h p (kind_of kind) ≡ buffer.Stage h p
      stage_of h p stage.Hold e = refl
      stage_of h p (stage.Meter rate) e = refl
      stage_of h p stage.Send e = absurd (e refl)

  pub any_moved : (p : ℕ) (g : Goes board to flow p n shifted overflow) → Crosses (is_high shifted.to) (buffer_at f flow (p + 1)) (is_low shifted.from) (buffer.Stage f p) lows board board' → KeepsFlow board board' flow (moved p n flow)
  any_moved zero g t = first_moved g t
  any_moved (suc i) g t = later_moved i g t

  -- its way is shorter by twenty for each octet
  pub any_way : (p : ℕ) (g : Goes board to flow p n shifted overflow) → flow_way (moved p n flow) + 20 * n ≡ flow_way flow
  any_way zero g = first_way flow n (next board to flow zero n shifted overflow g x side time own m) (is_moving board to flow zero n shifted overflow g x side time own m)
  any_way (suc i) g =
      let here = found_at flow.chain.places i (less i (last_place flow) (before_last board to flow (suc i) n shifted overflow g x side time own m)) in
      later_way flow i n here.0 (next board to flow (suc i) n shifted overflow g x side time own m) here.1 (is_moving board to flow (suc i) n shifted overflow g x side time own m)
    where
      less : (i l : ℕ) → suc i < l → i < l
      less i l h = omega (arith, h)

  pub any_some : (p : ℕ) (g : Goes board to flow p n shifted overflow) → 0 < n
  any_some p g = (is_moving board to flow p n shifted overflow g x side time own m).some

  later : (i : ℕ) → (if suc i == 0 then n else 0) ≡ 0
  later i = let other : (suc i == 0) ≡ false = grind (arith, nat_tests) in ap (λ b. if b then n else 0) other

  none : (a b : ℕ) → b ≡ 0 → a ≡ a - b
  none a b e = omega (arith, e)

  few : (a b : ℕ) → b ≡ 0 → b ≤ a
  few a b e = omega (arith, e)

  -- how much is left in the receive buffer
  pub any_left : (p : ℕ) (g : Goes board to flow p n shifted overflow) → length (moved p n flow).recv ≡ length flow.recv - (if p == 0 then n else 0)
  any_left zero g = length-drop n flow.recv
  any_left (suc i) g = none (length flow.recv) (if suc i == 0 then n else 0) (later i)

  pub any_enough : (p : ℕ) (g : Goes board to flow p n shifted overflow) → (if p == 0 then n else 0) ≤ length flow.recv
  any_enough zero g = (is_moving board to flow zero n shifted overflow g x side time own m).few
  any_enough (suc i) g = few (length flow.recv) (if suc i == 0 then n else 0) (later i)

  -- what drained isn't the receive buffer
  pub low_place : (p : ℕ) (g : Goes board to flow p n shifted overflow) → is_low shifted.from ≡ true → 1 ≤ p
  low_place zero g low = not_both (is_low shifted.from) low (ap (λ (s : Shifted). is_low s.from) g.crossed)
  low_place (suc i) g low = omega arith

-- ---- the gates
pub crossed_gates : (f : FlowId) (rose drained : Bool) (b : BufferId) (p : ℕ) (lows : List FlowId) (old new : Board) → is_own f b ≡ true → Crosses rose b drained (buffer.Stage f p) lows old new → KeepsGates f old new
crossed_gates f rose drained b p lows old new own t = record {
  flows = t.flows;
  watched = t.watched;
  buffers = t.buffers;
  watchers = λ c. t.watchers (buffer.Write c);
  sends = λ g. t.pending (buffer.Send g) ∙ ap (λ s. if s then lows else pending_on old (buffer.Send g)) (and_false drained);
  marks = λ g d apart is. t.marks d ∙ ((λ i. not (drained && own_differs f g (buffer.Stage f p) d apart (same_flow-refl f) is i) && ((rose && own_differs f g b d apart own is i) || is_marked old d)) ∙ plain drained rose (is_marked old d));
}
  where
    and_false : (b : Bool) → (b && false) ≡ false
    and_false true = refl
    and_false false = refl

    plain : (a b d : Bool) → (not (a && false) && ((b && false) || d)) ≡ d
    plain true true d = refl
    plain true false d = refl
    plain false true d = refl
    plain false false d = refl
