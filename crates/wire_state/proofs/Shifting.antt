-- What a move crosses: the buffer that octets came to may rise, and the one that they left may drain.
use Rattle.exchange_core.specs.Exchange.{IsFlowOf}
use Rattle.exchange_core.specs.Flow.{Flow, last_place as send_place}
use Rattle.filter_chain.specs.Place.{IsPlace, IsWithinKind, Place, is_source, kind_of}
use Rattle.filter_chain.specs.declared.stage.StageKind.{StageKind as PlaceKind}
use Rattle.filter_chain.specs.declared.stage.StageKind.TheVariants as kind
use Rattle.flow_gate.specs.Board.{times_of_buffer}
use Rattle.flow_gate.specs.Ids.{same_flow}
use Rattle.flow_rules.specs.declared.ids.BufferId.{BufferId}
use Rattle.flow_rules.specs.declared.ids.BufferId.TheVariants as buffer
use Rattle.flow_rules.specs.declared.ids.FlowId.{FlowId}
use Rattle.flow_laws.proofs.Lists.{flow_same, one_if}
use Rattle.proxy_config.specs.declared.config.LimitKeys.{LimitKeys}
use Rattle.std.proofs.Common.{ap, arith, refl, subst, sym, ◌∙◌}
use Rattle.std.proofs.lemmas.Bool.Decides.{nat_tests}
use Rattle.std.specs.Prelude.{Bool, Some, false, if◌then◌else◌, not, slice_get, suc, true, ℕ, ◌&&◌, ◌+◌, ◌<◌, ◌==◌, ◌∷◌, ◌≡◌, None, Option, [], is_some, ◌++◌}
use Rattle.tape_laws.specs.Pauses.{place_buffer}
use Rattle.tape_laws.specs.Sources.{source_buffers}
use Rattle.tape_laws.specs.Watermark.{above, drains_at, rises_at}
use Rattle.tape_laws.specs.World.{last_place}
use Rattle.wire_flows.proofs.Steps.{buffer_same}
use Rattle.wire_flows.specs.Sound.{buffer_of}
use Rattle.wire_state.proofs.Rising.{of_one}
use Rattle.wire_state.proofs.Watching.{place_times, recv_times, send_times, stage_away, last_one}
use Rattle.wire_state.specs.Counts.{AreOver}
use Rattle.wire_state.specs.Tapes.{conn_to, tape_setup}
use Rattle.wire_state.specs.Ways.{WayHistory, WayStep, stages_passed}
use Rattle.wire_state.specs.Worlds.{FlowIs}
use Rattle.wire_state.proofs.Holding.{AreHolds, paused_in, resumed_in}
use Rattle.wire_state.specs.Noting.{pause_of, resume_of}

-- ---- names
-- the buffer of a place on the tape
pub place_named : (l : LimitKeys) (f : FlowId) (h : WayHistory) (flow : Flow) (x time : ℕ) (side : Bool) → FlowIs l f h flow → IsFlowOf x side time flow → (i : ℕ) (y : Place) → slice_get flow.chain.places i ≡ Some y → i < send_place flow
    → place_buffer (tape_setup l) f (i + 1) h ≡ buffer_of f (suc i) (kind_of y.kind)
place_named l f h flow x time side is own i y found within =
    ap (λ (b : Bool). if b then buffer.Recv f else (if i + 1 == last_place (tape_setup l) f h then buffer.Send f else buffer.Stage f (i + 1))) (some i)
    ∙ (ap (λ (n : ℕ). if i + 1 == n then buffer.Send f else buffer.Stage f (i + 1)) (sym is.last) ∙ buffer_same f flow i y own.sound.chain.order found within)
  where
    some : (i : ℕ) → (i + 1 == 0) ≡ false
    some i = grind (arith, nat_tests)

-- ---- one place, before a step and after it
either_cross : (src r r' : Bool) (t : ℕ) → t ≡ one_if src → (src ≡ true → r ≡ r') → (src ≡ false → r' ≡ false) → (if r then t else 0) ≡ one_if r'
either_cross true r r' t e same none = (λ i. if same refl i then e i else 0) ∙ shown r'
  where
    shown : (b : Bool) → (if b then 1 else 0) ≡ one_if b
    shown b = refl
either_cross false r r' t e same none = zero r e ∙ sym (ap one_if (none refl))
  where
    zero : (b : Bool) {n : ℕ} → n ≡ 0 → (if b then n else 0) ≡ 0
    zero true i = i
    zero false i = refl

none_cross : (r : Bool) (t : ℕ) → t ≡ 0 → (if r then t else 0) ≡ 0
none_cross true t e = e
none_cross false t e = refl

module _ (l : LimitKeys) (f : FlowId) (step : WayStep) (h : WayHistory) (was now : Flow) (is_was : FlowIs l f h was) (is_now : FlowIs l f (step ∷ h) now) (over_was : AreOver l f h was) (over_is : AreOver l f (step ∷ h) now)
    (i : ℕ) (x y : Place) (found_was : slice_get was.chain.places i ≡ Some x) (found : slice_get now.chain.places i ≡ Some y) (same : y.kind ≡ x.kind) (sound_was : IsPlace x) (sound_now : IsPlace y) where
  abbrev b : BufferId
  b = buffer_of f (suc i) (kind_of x.kind)

  -- a Hold never rises
  held_low : (z : Place) → IsPlace z → is_source z.kind ≡ false → z.above ≡ false
  held_low z s e = at z.kind refl (s.kind)
    where
      at : (k : PlaceKind) → z.kind ≡ k → IsWithinKind z.kind z → z.above ≡ false
      at kind.Hold is k = (subst (λ (v : PlaceKind). IsWithinKind v z) is k).0
      at (kind.Meter rate) is k = absurd (cc (sym e ∙ ap is_source is))
      at kind.Send is k = absurd (cc (sym e ∙ ap is_source is))

  over_x : is_source x.kind ≡ true → x.above ≡ above (tape_setup l) b h
  over_x = over_was (suc i) x found_was

  over_y : is_source x.kind ≡ true → y.above ≡ above (tape_setup l) b (step ∷ h)
  over_y e = over_is (suc i) y found (ap is_source same ∙ e) ∙ ap (λ (k : PlaceKind). above (tape_setup l) (buffer_of f (suc i) (kind_of k)) (step ∷ h)) same

  low_x : is_source x.kind ≡ false → x.above ≡ false
  low_x e = held_low x sound_was e

  low_y : is_source x.kind ≡ false → y.above ≡ false
  low_y e = held_low y sound_now (ap is_source same ∙ e)

  -- how often it is among the sources of a flow
  own_times : times_of_buffer b (source_buffers (tape_setup l) f h) ≡ one_if (is_source x.kind)
  own_times = place_times f f (last_place (tape_setup l) f h + 1) (conn_to f h) l.send_buffer (stages_passed f h) was.chain.places i x is_was.shape.places found_was ∙ ap (λ (v : Bool). one_if (v && is_source x.kind)) (flow_same f)

  pub own_rises : of_one (λ d. rises_at (tape_setup l) d step h) (source_buffers (tape_setup l) f h) (Some b) ≡ one_if (not x.above && y.above)
  own_rises = either_cross (is_source x.kind) (rises_at (tape_setup l) b step h) (not x.above && y.above) _ own_times (λ e. λ j. not (sym (over_x e) j) && sym (over_y e) j) (λ e. ap (λ (v : Bool). not x.above && v) (low_y e) ∙ and_none (not x.above))
    where
      and_none : (v : Bool) → (v && false) ≡ false
      and_none true = refl
      and_none false = refl

  pub own_drains : of_one (λ d. drains_at (tape_setup l) d step h) (source_buffers (tape_setup l) f h) (Some b) ≡ one_if (x.above && not y.above)
  own_drains = either_cross (is_source x.kind) (drains_at (tape_setup l) b step h) (x.above && not y.above) _ own_times (λ e. λ j. sym (over_x e) j && not (sym (over_y e) j)) (λ e. ap (λ (v : Bool). v && not y.above) (low_x e))

-- ---- buffers of another flow
-- none of them is a source of this one
pub other_times : (l : LimitKeys) (f g : FlowId) (h : WayHistory) (p : ℕ) → same_flow f g ≡ false → times_of_buffer (place_buffer (tape_setup l) f p h) (source_buffers (tape_setup l) g h) ≡ 0
other_times l f g h p apart = at (p == 0) (p == last_place (tape_setup l) f h)
  where
    w : ℕ
    w = last_place (tape_setup l) g h + 1

    staged : times_of_buffer (buffer.Stage f p) (source_buffers (tape_setup l) g h) ≡ 0
    staged = stage_away f g w (conn_to g h) p 1 (stages_passed g h) apart

    at : (a b : Bool) → times_of_buffer (if a then buffer.Recv f else (if b then buffer.Send f else buffer.Stage f p)) (source_buffers (tape_setup l) g h) ≡ 0
    at true b = recv_times f g w (conn_to g h) 1 (stages_passed g h)
    at false true = send_times f g w (conn_to g h) 1 (stages_passed g h) ∙ ap one_if apart
    at false false = staged

pub other_rises : (l : LimitKeys) (f g : FlowId) (step : WayStep) (h : WayHistory) (p : ℕ) → same_flow f g ≡ false → of_one (λ d. rises_at (tape_setup l) d step h) (source_buffers (tape_setup l) g h) (Some (place_buffer (tape_setup l) f p h)) ≡ 0
other_rises l f g step h p apart = none_cross (rises_at (tape_setup l) (place_buffer (tape_setup l) f p h) step h) _ (other_times l f g h p apart)

pub other_drains : (l : LimitKeys) (f g : FlowId) (step : WayStep) (h : WayHistory) (p : ℕ) → same_flow f g ≡ false → of_one (λ d. drains_at (tape_setup l) d step h) (source_buffers (tape_setup l) g h) (Some (place_buffer (tape_setup l) f p h)) ≡ 0
other_drains l f g step h p apart = none_cross (drains_at (tape_setup l) (place_buffer (tape_setup l) f p h) step h) _ (other_times l f g h p apart)

-- the receive buffer is nobody's source
pub recv_drains : (l : LimitKeys) (f g : FlowId) (step : WayStep) (h : WayHistory) → of_one (λ d. drains_at (tape_setup l) d step h) (source_buffers (tape_setup l) g h) (Some (place_buffer (tape_setup l) f 0 h)) ≡ 0
recv_drains l f g step h = none_cross (drains_at (tape_setup l) (buffer.Recv f) step h) _ (recv_times f g (last_place (tape_setup l) g h + 1) (conn_to g h) 1 (stages_passed g h))

-- ---- the pauses and resumes of what a move crossed
pub crossed_holds : (f : FlowId) (r d : Option BufferId) (b : Bool) → AreHolds (pause_of f r ++ (if b then [] else resume_of f d))
crossed_holds f None None true = tt
crossed_holds f None None false = tt
crossed_holds f None (Some x) true = tt
crossed_holds f None (Some x) false = (tt, tt)
crossed_holds f (Some y) None true = (tt, tt)
crossed_holds f (Some y) None false = (tt, tt)
crossed_holds f (Some y) (Some x) true = (tt, tt)
crossed_holds f (Some y) (Some x) false = (tt, (tt, tt))

pub crossed_pauses : (f g : FlowId) (r d : Option BufferId) (b : Bool) → paused_in g (pause_of f r ++ (if b then [] else resume_of f d)) ≡ (if is_some r then one_if (same_flow f g) else 0)
crossed_pauses f g None None true = refl
crossed_pauses f g None None false = refl
crossed_pauses f g None (Some x) true = refl
crossed_pauses f g None (Some x) false = refl
crossed_pauses f g (Some y) None true = last_one (same_flow f g)
crossed_pauses f g (Some y) None false = last_one (same_flow f g)
crossed_pauses f g (Some y) (Some x) true = last_one (same_flow f g)
crossed_pauses f g (Some y) (Some x) false = last_one (same_flow f g)

pub crossed_resumes : (f g : FlowId) (r d : Option BufferId) (b : Bool) → resumed_in g (pause_of f r ++ (if b then [] else resume_of f d)) ≡ (if is_some d && not b then one_if (same_flow f g) else 0)
crossed_resumes f g None None true = refl
crossed_resumes f g None None false = refl
crossed_resumes f g None (Some x) true = refl
crossed_resumes f g None (Some x) false = last_one (same_flow f g)
crossed_resumes f g (Some y) None true = refl
crossed_resumes f g (Some y) None false = refl
crossed_resumes f g (Some y) (Some x) true = refl
crossed_resumes f g (Some y) (Some x) false = last_one (same_flow f g)
