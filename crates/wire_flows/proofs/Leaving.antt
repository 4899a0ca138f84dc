-- What a step leaves for callers, by what it was.
use Rattle.exchange_core.specs.Changes.{ChangesFlow}
use Rattle.exchange_core.specs.Effects.{moved}
use Rattle.exchange_core.specs.Exchange.{IsFlowOf}
use Rattle.exchange_core.specs.Exchanges.{Exchanges, IsSound as AreSoundExchanges}
use Rattle.exchange_core.specs.Flow.{Flow, last_place}
use Rattle.exchange_core.specs.Moves.{next_step, stepped}
use Rattle.exchange_core.specs.declared.step.Step.{Step}
use Rattle.exchange_core.specs.declared.step.Step.TheVariants as step
use Rattle.flow_gate.proofs.SameIds.{same_buffer-comm, same_flow-refl}
use Rattle.flow_gate.specs.Board.{Board, IsSound as AreSoundGates, is_marked, pending_on, watchers_of}
use Rattle.flow_gate.specs.Ids.{is_own, same_buffer, same_flow}
use Rattle.flow_rules.specs.declared.ids.BufferId.{BufferId}
use Rattle.flow_rules.specs.declared.ids.FlowId.{FlowId}
use Rattle.flow_rules.specs.Pausing.{CanPause}
use Rattle.std.proofs.Common.{ap, arith, refl, subst, sym, ◌∙◌}
use Rattle.std.proofs.lemmas.Option.{same_Some}
use Rattle.std.specs.Option.{option_map_or}
use Rattle.std.specs.Prelude.{Bool, IfSome, List, None, Option, Some, [], drop, false, if◌then◌else◌, length, not, true, ℕ, ◌&&◌, ◌*◌, ◌+◌, ◌-◌, ◌<◌, ◌==◌, ◌||◌, ◌∷◌, ◌≡◌, ◌≤◌}
use Rattle.wire_flows.proofs.Answering.{wire_found}
use Rattle.wire_flows.proofs.Arrivals.{changes_left}
use Rattle.wire_flows.proofs.Boards.{keeps_writes, same_write}
use Rattle.wire_flows.proofs.Cases.{by_case}
use Rattle.wire_flows.proofs.Found.{flow_is, name_is}
use Rattle.wire_flows.proofs.Going.{go_less, go_more}
use Rattle.wire_flows.proofs.Kept.{KeepsFlow, KeepsGates, gates_same, keeps_live, sound_after}
use Rattle.wire_flows.proofs.Stepping.{any_enough, any_left, any_moved, any_some, any_way, crossed_gates, flow_stays, low_place}
use Rattle.wire_flows.proofs.Steps.{Goes, goes_of}
use Rattle.wire_flows.specs.Begins.{Crosses, lows_left}
use Rattle.wire_flows.specs.Flows.{ChangesLeft, Flows, KeepsLive, flow_in, goes_to, left_in, time_of}
use Rattle.wire_flows.specs.Measure.{flow_way, taken_by, to_go}
use Rattle.wire_flows.specs.Moves.{IsMove, StepCrosses, buffer_at, is_high, is_low, left_by, outcome_of, untold_by}
use Rattle.wire_flows.specs.Sound.{IsSound, MarksAre}
use Rattle.wire_flows.specs.Writes.{KeepsWrites}
use Rattle.wire_flows.specs.declared.moving.Outcome.{Outcome}
use Rattle.wm_buffer.specs.declared.buffer.Shifted.{Shifted}
use Rattle.flow_rules.specs.declared.ids.BufferId.TheVariants as buffer

-- all that a step leaves
pub record Leaves (f : FlowId) (o : Outcome) (old new : Flows) : Type 0 where
  pub moves : IsMove f o
  pub live : KeepsLive old new
  pub left : ChangesLeft f (left_in old f - left_by o) old new
  pub enough : left_by o ≤ left_in old f
  pub time : time_of new ≡ time_of old
  pub writes : KeepsWrites old new
  pub lows : (b : BufferId) → pending_on new.gates b ≡ untold_by f o b (pending_on old.gates b)
  pub less : to_go new + taken_by o ≤ to_go old
  pub sound : IsSound new

left_is : (f : FlowId) (old : Flows) (flow : Flow) → flow_in old f ≡ Some flow → length flow.recv ≡ left_in old f
left_is f old flow found = sym (ap (λ o. option_map_or (λ x. length x.recv) o 0) found)

-- an outcome without a move
pub record IsIdle (f : FlowId) (o : Outcome) : Type 0 where
  pub moves : IsMove f o
  pub left : left_by o ≡ 0
  pub taken : taken_by o ≡ 0
  pub lows : (b : BufferId) (fs : List FlowId) → untold_by f o b fs ≡ fs

module _ (f : FlowId) (old : Flows) (ex : Exchanges) (s : IsSound old) (flow : Flow) (found : flow_in old f ≡ Some flow) (sound : AreSoundExchanges ex)
    (c : ChangesFlow f (stepped old.gates (goes_to old f)) old.exchanges ex) where
  -- the flow of this name is this one
  kept_all : (board : Board) → KeepsFlow old.gates board flow (stepped old.gates (goes_to old f) flow) → (x : Flow) → flow_in old f ≡ Some x → KeepsFlow old.gates board x (stepped old.gates (goes_to old f) x)
  kept_all board k x is = subst (λ y. KeepsFlow old.gates board y (stepped old.gates (goes_to old f) y)) (same_Some flow x (sym found ∙ is)) k

  -- ---- nothing moved
  pub idles : (o : Outcome) → IsIdle f o → stepped old.gates (goes_to old f) flow ≡ flow → Leaves f o old (record { exchanges = ex; gates = old.gates })
  idles o none same =
      let kept = kept_all old.gates (subst (λ y. KeepsFlow old.gates old.gates flow y) (sym same) (flow_stays old.gates flow)) in
      record {
        moves = none.moves;
        live = keeps_live f (stepped old.gates (goes_to old f)) old ex old.gates c (gates_same f old.gates) kept;
        left = changes_left f (stepped old.gates (goes_to old f)) old ex old.gates flow (left_in old f - left_by o) c found (ap (λ (x : Flow). length x.recv) same ∙ (left_is f old flow found ∙ less (left_in old f) (left_by o) none.left));
        enough = few (left_in old f) (left_by o) none.left;
        time = c.flow.time;
        writes = keeps_writes old (record { exchanges = ex; gates = old.gates }) (λ d. same_write d old.gates);
        lows = λ b. sym (none.lows b (pending_on old.gates b));
        less = most (to_go (record { exchanges = ex; gates = old.gates })) (to_go old) (taken_by o) none.taken
            (go_more f (stepped old.gates (goes_to old f)) old (record { exchanges = ex; gates = old.gates }) c s.exchanges sound (λ d. refl) 0 flow found (no_more (flow_way flow) (flow_way (stepped old.gates (goes_to old f) flow)) (ap flow_way same)));
        sound = sound_after f (stepped old.gates (goes_to old f)) old ex old.gates c (gates_same f old.gates) kept s sound s.gates;
      }
    where
      less : (a b : ℕ) → b ≡ 0 → a ≡ a - b
      less a b e = omega (arith, e)

      few : (a b : ℕ) → b ≡ 0 → b ≤ a
      few a b e = omega (arith, e)

      no_more : (a b : ℕ) → b ≡ a → b ≤ a + 0
      no_more a b e = omega (arith, e)

      most : (n o t : ℕ) → t ≡ 0 → n ≤ o + 0 → n + t ≤ o
      most n o t e l = omega (arith, e, l)

  -- ---- octets moved
  module _ (board : Board) (gates : AreSoundGates board) (p n : ℕ) (shifted : Shifted) (overflow : Bool) (is : next_step old.gates (goes_to old f) flow ≡ step.Moved p n shifted overflow)
      (t : StepCrosses f flow (step.Moved p n shifted overflow) old.gates board) (watched : is_low shifted.from ≡ true → watchers_of old.gates (buffer.Stage f p) ≡ f ∷ []) where
    abbrev after : Flows
    after = record { exchanges = ex; gates = board }

    abbrev outcome : Outcome
    outcome = outcome_of f flow (step.Moved p n shifted overflow)

    goes : Goes old.gates (goes_to old f) flow p n shifted overflow
    goes = goes_of old.gates (goes_to old f) flow p n shifted overflow is

    marks : MarksAre old.gates flow
    marks = subst (λ o. IfSome o (MarksAre old.gates)) found (s.marks f)

    own : IsFlowOf f.exchange f.back old.exchanges.time flow
    own = flow_is old.exchanges f flow s.exchanges found

    kept : KeepsFlow old.gates board flow (stepped old.gates (goes_to old f) flow)
    kept = subst (λ y. KeepsFlow old.gates board flow y) (sym goes.after)
        (any_moved f old.gates board (goes_to old f) flow n shifted overflow (lows_left overflow (watchers_of old.gates (buffer.Stage f p))) f.exchange old.exchanges.time f.back own (name_is old.exchanges f flow s.exchanges found) marks (wire_found old f flow s found) p goes t)

    buffer_own : (q : ℕ) → is_own f (buffer_at f flow q) ≡ true
    buffer_own q = by_case (q == last_place flow)
        (λ last. ap (λ b. is_own f (if b then buffer.Send f else buffer.Stage f q)) last ∙ same_flow-refl f)
        (λ other. ap (λ b. is_own f (if b then buffer.Send f else buffer.Stage f q)) other ∙ same_flow-refl f)

    crossed : KeepsGates f old.gates board
    crossed = crossed_gates f (is_high shifted.to) (is_low shifted.from) (buffer_at f flow (p + 1)) p (lows_left overflow (watchers_of old.gates (buffer.Stage f p))) old.gates board (buffer_own (p + 1)) t

    -- no write buffer was touched
    write_apart : (d q : ℕ) → same_buffer (buffer_at f flow q) (buffer.Write d) ≡ false
    write_apart d q = by_case (q == last_place flow)
        (λ last. ap (λ b. same_buffer (if b then buffer.Send f else buffer.Stage f q) (buffer.Write d)) last)
        (λ other. ap (λ b. same_buffer (if b then buffer.Send f else buffer.Stage f q) (buffer.Write d)) other)

    lows_same : (d : ℕ) → pending_on board (buffer.Write d) ≡ pending_on old.gates (buffer.Write d)
    lows_same d = t.pending (buffer.Write d) ∙ ap (λ b. if b then lows_left overflow (watchers_of old.gates (buffer.Stage f p)) else pending_on old.gates (buffer.Write d)) (and_false (is_low shifted.from))
      where
        and_false : (b : Bool) → (b && false) ≡ false
        and_false true = refl
        and_false false = refl

    -- the crossings of its own
    pauses : (q : ℕ) → 1 ≤ q → CanPause f (buffer_at f flow q)
    pauses q first = by_case (q == last_place flow)
        (λ last. subst (λ b. CanPause f (if b then buffer.Send f else buffer.Stage f q)) (sym last) refl)
        (λ other. subst (λ b. CanPause f (if b then buffer.Send f else buffer.Stage f q)) (sym other) (refl, first))

    rises_own : (b : Bool) → IfSome (if b then Some (buffer_at f flow (p + 1)) else None) (CanPause f)
    rises_own true = pauses (p + 1) (omega arith)
    rises_own false = tt

    drains_own : (b : Bool) → (b ≡ true → 1 ≤ p) → IfSome (if b then Some (buffer.Stage f p) else None) (CanPause f)
    drains_own true first = (refl, first refl)
    drains_own false first = tt

    told : (low : Bool) (b : BufferId) → (low ≡ true → watchers_of old.gates (buffer.Stage f p) ≡ f ∷ [])
        → (if low && same_buffer (buffer.Stage f p) b then lows_left overflow (watchers_of old.gates (buffer.Stage f p)) else pending_on old.gates b)
        ≡ (if option_map_or (same_buffer b) (if low then Some (buffer.Stage f p) else None) false then (if overflow then f ∷ [] else []) else pending_on old.gates b)
    told true b one =
        (λ i. if same_buffer-comm (buffer.Stage f p) b i then lows_left overflow (one refl i) else pending_on old.gates b)
        ∙ ap (λ fs. if same_buffer b (buffer.Stage f p) then fs else pending_on old.gates b) (by_over overflow)
      where
        by_over : (over : Bool) → lows_left over (f ∷ []) ≡ (if over then f ∷ [] else [])
        by_over true = refl
        by_over false = refl
    told false b one = refl

    pub leaves : Leaves f outcome old after
    leaves = record {
      moves = (
        any_some f old.gates board (goes_to old f) flow n shifted overflow [] f.exchange old.exchanges.time f.back own (name_is old.exchanges f flow s.exchanges found) marks (wire_found old f flow s found) p goes,
        rises_own (is_high shifted.to),
        drains_own (is_low shifted.from) (low_place f old.gates board (goes_to old f) flow n shifted overflow [] f.exchange old.exchanges.time f.back own (name_is old.exchanges f flow s.exchanges found) marks (wire_found old f flow s found) p goes),
      );
      live = keeps_live f (stepped old.gates (goes_to old f)) old ex board c crossed (kept_all board kept);
      left = changes_left f (stepped old.gates (goes_to old f)) old ex board flow (left_in old f - left_by outcome) c found
          (ap (λ (x : Flow). length x.recv) goes.after
          ∙ (any_left f old.gates board (goes_to old f) flow n shifted overflow [] f.exchange old.exchanges.time f.back own (name_is old.exchanges f flow s.exchanges found) marks (wire_found old f flow s found) p goes
          ∙ ap (λ k. k - (if p == 0 then n else 0)) (left_is f old flow found)));
      enough = subst (λ k. (if p == 0 then n else 0) ≤ k) (left_is f old flow found)
          (any_enough f old.gates board (goes_to old f) flow n shifted overflow [] f.exchange old.exchanges.time f.back own (name_is old.exchanges f flow s.exchanges found) marks (wire_found old f flow s found) p goes);
      time = c.flow.time;
      writes = keeps_writes old after (λ d. record {
        known = t.buffers (buffer.Write d);
        above = t.marks (buffer.Write d) ∙ ((λ i. plain_low (is_low shifted.from) i && ((is_high shifted.to && write_apart d (p + 1) i) || is_marked old.gates (buffer.Write d))) ∙ plain (is_high shifted.to) (is_marked old.gates (buffer.Write d)));
        lows = lows_same d;
      });
      lows = λ b. t.pending b ∙ told (is_low shifted.from) b watched;
      less = go_less f (stepped old.gates (goes_to old f)) old after c s.exchanges sound lows_same 20 flow found (subst (λ y. flow_way y + 20 ≤ flow_way flow) (sym goes.after)
          (least (flow_way (moved p n flow)) (flow_way flow) n
          (any_some f old.gates board (goes_to old f) flow n shifted overflow [] f.exchange old.exchanges.time f.back own (name_is old.exchanges f flow s.exchanges found) marks (wire_found old f flow s found) p goes)
          (any_way f old.gates board (goes_to old f) flow n shifted overflow [] f.exchange old.exchanges.time f.back own (name_is old.exchanges f flow s.exchanges found) marks (wire_found old f flow s found) p goes)));
      sound = sound_after f (stepped old.gates (goes_to old f)) old ex board c crossed (kept_all board kept) s sound gates;
    }
      where
        least : (a b n : ℕ) → 0 < n → a + 20 * n ≡ b → a + 20 ≤ b
        least a b n h e = omega (arith, h, e)

        plain_low : (b : Bool) → not (b && false) ≡ true
        plain_low true = refl
        plain_low false = refl

        plain : (a b : Bool) → (true && ((a && false) || b)) ≡ b
        plain true b = refl
        plain false b = refl
