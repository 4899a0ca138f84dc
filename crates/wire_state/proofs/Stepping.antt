-- A step of a flow that moved octets, as the world has it.
use Rattle.exchange_core.specs.Flow.{Flow, last_place, octets_in}
use Rattle.exchange_core.specs.Effects.{moved}
use Rattle.exchange_core.specs.Moves.{is_free, may_release, next_step, stepped}
use Rattle.exchange_core.specs.declared.step.Step.{Step}
use Rattle.exchange_core.specs.declared.step.Step.TheVariants as step
use Rattle.filter_chain.specs.Chain.{above_at}
use Rattle.filter_chain.specs.Place.{Place}
use Rattle.flow_gate.specs.Board.{Board, pending_on}
use Rattle.flow_rules.specs.declared.ids.BufferId.{BufferId}
use Rattle.flow_rules.specs.declared.ids.BufferId.TheVariants as buffer
use Rattle.flow_rules.specs.declared.ids.FlowId.{FlowId}
use Rattle.proxy_config.specs.declared.config.Config.{Config}
use Rattle.proxy_config.specs.declared.config.LimitKeys.{LimitKeys}
use Rattle.std.proofs.Common.{ap, arith, refl, subst, sym, ◌∙◌}
use Rattle.exchange_core.specs.Changes.{ChangesFlow}
use Rattle.flow_notes.specs.declared.notes.Note.{Note}
use Rattle.flow_notes.specs.declared.notes.Note.TheVariants as note
use Rattle.paged_map.specs.PagedMap.{PagedMap}
use Rattle.std.specs.Option.{option_map_or}
use Rattle.std.specs.Prelude.{Bool, IsSome, List, None, Option, Some, false, if◌then◌else◌, is_some, length, min, not, slice_get, true, ℕ, ◌&&◌, ◌+◌, ◌-◌, ◌<◌, ◌∷◌, ◌≡◌, ◌≤◌}
use Rattle.tape_laws.specs.History.{Noted}
use Rattle.wire_flows.proofs.Crossings.{high_of, low_of}
use Rattle.wire_flows.proofs.Freed.{found_at, free_is, release_most}
use Rattle.wire_flows.proofs.Stepping.{still_stays}
use Rattle.wire_flows.proofs.Steps.{goes_of}
use Rattle.wire_flows.specs.Flows.{Flows, IsThere, flow_in, goes_to}
use Rattle.wire_flows.specs.Moves.{buffer_at, is_high, is_low, outcome_of, untold_by}
use Rattle.wire_flows.specs.Sound.{IsSound}
use Rattle.wire_flows.specs.Writes.{KeepsWrites}
use Rattle.wire_flows.specs.declared.moving.Moved.{Moved}
use Rattle.wire_flows.specs.declared.moving.Outcome.{Outcome}
use Rattle.wire_flows.specs.declared.moving.Outcome.TheVariants as outcome
use Rattle.wire_links.specs.Links.{Links}
use Rattle.wire_state.proofs.Bodies.{moves}
use Rattle.wire_state.proofs.Goings.{bodies_told, still_bodies}
use Rattle.wire_state.proofs.Held.{kept_if}
use Rattle.wire_state.specs.Marks.{Footing}
use Rattle.wire_state.specs.Ways.{WayHistory}
use Rattle.wire_state.specs.Worlds.{FlowIs, Stands, ToldBy}
use Rattle.wire_state.specs.declared.conn.Conn.{Conn}
use Rattle.wm_buffer.specs.declared.buffer.Shifted.{Shifted}

-- the place that the octets left, and how many there were, are those of the step
pub record IsStep (f : FlowId) (board : Board) (to : Option ℕ) (flow : Flow) (m : Moved) : Type 0 where
  pub next : Place
  pub at_next : slice_get flow.chain.places m.place ≡ Some next
  pub after_it : stepped board to flow ≡ moved m.place m.n flow
  pub before_last : m.place < last_place flow
  pub few : m.n ≤ length (octets_in flow m.place)
  pub free : is_free board to flow m.place ≡ true
  pub all : m.n ≡ may_release board flow m.place
  -- whether the buffer that the octets came to rose, and the one that they left drained
  pub rose_is : is_some m.rose ≡ (not (above_at flow.chain (m.place + 1)) && above_at (moved m.place m.n flow).chain (m.place + 1))
  pub drained_is : m.drained ≡ (if above_at flow.chain m.place && not (above_at (moved m.place m.n flow).chain m.place) then Some (buffer.Stage f m.place) else None)

pub step_of : (board : Board) (to : Option ℕ) (f : FlowId) (flow : Flow) (m : Moved) → 0 < last_place flow
    → outcome.Moved m ≡ outcome_of f flow (next_step board to flow) → IsStep f board to flow m
step_of board to f flow m some e = by_step (next_step board to flow) refl e
  where
    within : (p l : ℕ) → p ≤ l - 1 → 0 < l → p < l
    within p l a b = omega (arith, a, b)

    few : (at_place p many n : ℕ) → at_place ≡ p → many ≡ n → n ≡ may_release board flow p → may_release board flow p ≤ min flow.chain.quantum (length (octets_in flow p)) → many ≤ length (octets_in flow at_place)
    few at_place p many n place number is most = subst (λ (q : ℕ). many ≤ length (octets_in flow q)) (sym place) (omega (arith, number, is, most))

    some_if : (b : Bool) (x : BufferId) → is_some (if b then Some x else None) ≡ b
    some_if true x = refl
    some_if false x = refl

    by_step : (s : Step) → next_step board to flow ≡ s → outcome.Moved m ≡ outcome_of f flow s → IsStep f board to flow m
    by_step step.Still is e = cc
    by_step step.TooLarge is e = cc
    by_step (step.Moved p n shifted overflow) is e =
        let g = goes_of board to flow p n shifted overflow is in
        let place_is : m.place ≡ p = cc in
        let number_is : m.n ≡ n = cc in
        let rose_named : m.rose ≡ (if is_high shifted.to then Some (buffer_at f flow (p + 1)) else None) = cc in
        let drained_named : m.drained ≡ (if is_low shifted.from then Some (buffer.Stage f p) else None) = cc in
        let here = found_at flow.chain.places p (within p (last_place flow) (free_is board to flow (last_place flow - 1) p g.free).within some) in
        record {
          next = here.0;
          at_next = ap (λ q. slice_get flow.chain.places q) place_is ∙ here.1;
          after_it = g.after ∙ sym ((λ i. moved (place_is i) (number_is i) flow));
          before_last = subst (λ (q : ℕ). q < last_place flow) (sym place_is) (within p (last_place flow) (free_is board to flow (last_place flow - 1) p g.free).within some);
          few = few m.place p m.n n place_is number_is g.is (release_most board flow p);
          all = number_is ∙ (g.is ∙ ap (may_release board flow) (sym place_is));
          free = subst (λ (q : ℕ). is_free board to flow q ≡ true) (sym place_is) (free_is board to flow (last_place flow - 1) p g.free).free;
          rose_is = ap is_some rose_named ∙ (some_if (is_high shifted.to) (buffer_at f flow (p + 1)) ∙ (ap (λ (v : Shifted). is_high v.to) g.crossed
              ∙ (high_of (above_at flow.chain (p + 1)) (above_at (moved p n flow).chain (p + 1)) ∙ sym (λ i. not (above_at flow.chain (place_is i + 1)) && above_at (moved (place_is i) (number_is i) flow).chain (place_is i + 1)))));
          drained_is = drained_named ∙ (ap (λ (b : Bool). if b then Some (buffer.Stage f p) else None) (ap (λ (v : Shifted). is_low v.from) g.crossed ∙ low_of (above_at flow.chain p) (above_at (moved p n flow).chain p))
              ∙ sym (λ i. if above_at flow.chain (place_is i) && not (above_at (moved (place_is i) (number_is i) flow).chain (place_is i)) then Some (buffer.Stage f (place_is i)) else None));
        }

-- ---- what a step made of the flows
module _ (f : FlowId) (old new : Flows) (o : Outcome) (is : o ≡ option_map_or (λ g. outcome_of f g (next_step old.gates (goes_to old f) g)) (flow_in old f) outcome.Still)
    (changes : ChangesFlow f (stepped old.gates (goes_to old f)) old.exchanges new.exchanges) where
  outcome_at : (flow : Flow) → flow_in old f ≡ Some flow → o ≡ outcome_of f flow (next_step old.gates (goes_to old f) flow)
  outcome_at flow found = is ∙ ap (λ (v : Option Flow). option_map_or (λ g. outcome_of f g (next_step old.gates (goes_to old f) g)) v outcome.Still) found

  pub there : (m : Moved) → o ≡ outcome.Moved m → (v : Option Flow) → flow_in old f ≡ v → IsThere old f
  there m e None none = cc (ap (λ (v : Option Flow). option_map_or (λ g. outcome_of f g (next_step old.gates (goes_to old f) g)) v outcome.Still) none)
  there m e (Some flow) some = subst IsSome (sym some) refl

  some_place : (a b : ℕ) → a ≡ b + 1 → 0 < a
  some_place a b e = omega (arith, e)

  -- what drains is a stage of the flow
  pub stage_of : (m : Moved) → o ≡ outcome.Moved m → (flow : Flow) → flow_in old f ≡ Some flow → m.drained ≡ (if option_map_or (λ b. true) m.drained false then Some (buffer.Stage f m.place) else None)
  stage_of m e flow found = at (next_step old.gates (goes_to old f) flow) (sym e ∙ outcome_at flow found)
    where
      at : (s : Step) → outcome.Moved m ≡ outcome_of f flow s → m.drained ≡ (if option_map_or (λ b. true) m.drained false then Some (buffer.Stage f m.place) else None)
      at step.Still i = cc
      at step.TooLarge i = cc
      at (step.Moved p n shifted overflow) i = named (is_low shifted.from) drained_named place_is
        where
          drained_named : m.drained ≡ (if is_low shifted.from then Some (buffer.Stage f p) else None)
          drained_named = cc

          place_is : m.place ≡ p
          place_is = cc

          named : (b : Bool) → m.drained ≡ (if b then Some (buffer.Stage f p) else None) → m.place ≡ p → m.drained ≡ (if option_map_or (λ b. true) m.drained false then Some (buffer.Stage f m.place) else None)
          named true d q = d ∙ (ap (λ (v : ℕ). Some (buffer.Stage f v)) (sym q) ∙ sym (ap (λ (v : Option BufferId). if option_map_or (λ b. true) v false then Some (buffer.Stage f m.place) else None) d))
          named false d q = d ∙ sym (ap (λ (v : Option BufferId). if option_map_or (λ b. true) v false then Some (buffer.Stage f m.place) else None) d)

  -- octets moved
  pub made : {l : LimitKeys} (m : Moved) → o ≡ outcome.Moved m → (h : WayHistory) (flow : Flow) → flow_in old f ≡ Some flow → FlowIs l f h flow → IsStep f old.gates (goes_to old f) flow m
  made m e h flow found was = step_of old.gates (goes_to old f) f flow m (some_place _ _ was.last) (sym e ∙ outcome_at flow found)

  pub move_stands : {l : LimitKeys} (m : Moved) → o ≡ outcome.Moved m → IsSound new → (conns : PagedMap Conn) (links : Links) (h : WayHistory) → Stands l conns old links h → Stands l conns new links (Noted (note.Move f m.place m.n) ∷ h)
  move_stands m e sound conns links h s = moves f m.place m.n h old new conns links (stepped old.gates (goes_to old f)) changes (there m e (flow_in old f) refl)
      (λ flow found was. let k = made m e h flow found was in record { next = k.next; there = k.at_next; moves_so = k.after_it; few = k.few }) sound s

  -- nothing did
  pub still_told : {k : Config} {l : Footing} {t u : Option ℕ} → ((m : Moved) → o ≡ outcome.Moved m → ⊥) → IsSound new → KeepsWrites old new → ((b : BufferId) → pending_on new.gates b ≡ untold_by f o b (pending_on old.gates b)) → (conns : PagedMap Conn) (links : Links) (h : WayHistory) (g : ℕ → List ℕ) (start notes : List Note)
      → ToldBy k l t u h g start conns old links notes → ToldBy k l t u h g start conns new links notes
  still_told none sound writes lows_go = bodies_told old new (still_bodies f (stepped old.gates (goes_to old f)) old new
      (λ flow found. let stays = still_stays old.gates (goes_to old f) flow (λ p n shifted overflow e. none _ (outcome_at flow found ∙ ap (outcome_of f flow) e)) in
      kept_if flow (stepped old.gates (goes_to old f) flow) (ap (λ (g : Flow). g.window) stays) (ap (λ (g : Flow). g.chain.quantum) stays) (ap (λ (g : Flow). g.recv) stays) (ap (λ (g : Flow). g.chain.places) stays))
      (λ flow found. still_stays old.gates (goes_to old f) flow (λ p n shifted overflow e. none _ (outcome_at flow found ∙ ap (outcome_of f flow) e)))
      sound writes (λ b. lows_go b ∙ still_lows o none b) changes)
    where
      still_lows : (v : Outcome) → ((m : Moved) → v ≡ outcome.Moved m → ⊥) → (b : BufferId) → untold_by f v b (pending_on old.gates b) ≡ pending_on old.gates b
      still_lows (outcome.Moved m) none b = absurd (none m refl)
      still_lows outcome.Still none b = refl
      still_lows outcome.TooLarge none b = refl
