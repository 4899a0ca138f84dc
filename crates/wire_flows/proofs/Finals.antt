-- Small facts that single calls owe.
use Rattle.exchange_core.proofs.Outcomes.{either, on_ok}
use Rattle.exchange_core.specs.Exchange.{flow_in as side_of, goes_to as side_goes}
use Rattle.exchange_core.specs.Exchanges.{Exchanges, IsSound as AreSoundExchanges, exchange_at, flow_at, target_of}
use Rattle.exchange_core.specs.Flow.{Flow, IsSound as IsSoundFlow, last_place, stages_of}
use Rattle.exchange_core.specs.Units.{next_unit}
use Rattle.exchange_core.specs.State.{ungated}
use Rattle.flow_gate.specs.Board.{Board, IsSound as AreSoundGates, is_known, is_marked, pending_on, times, watchers_of}
use Rattle.flow_gate.specs.Changes.{Drains, IsEmpty as IsEmptyBoard, Knows, Tells}
use Rattle.flow_rules.specs.declared.ids.BufferId.{BufferId}
use Rattle.flow_rules.specs.declared.ids.FlowId.{FlowId}
use Rattle.flow_rules.specs.Narrowed.{octets_of}
use Rattle.flow_rules.specs.State.{FlowState, send_len}
use Rattle.flow_rules.specs.Units.{carried, carries_end, ends_after, head_may_go, next_unit as first_unit}
use Rattle.flow_rules.specs.declared.unit.Unit.{Unit as NextUnit}
use Rattle.flow_rules.specs.declared.unit.Unit.TheVariants.{Body, Head, Nothing, Trailers}
use Rattle.io_ports.specs.declared.octets.NoMemory.{NoMemory}
use Rattle.std.proofs.Common.{ap, arith, refl, subst, sym, ◌∙◌}
use Rattle.std.proofs.lemmas.Bool.Decides.{nat_tests}
use Rattle.std.proofs.lemmas.Option.{none-some, same_Some}
use Rattle.std.specs.List.Sorted.{IsStrictlySortedBy}
use Rattle.std.specs.Map.{lookup}
use Rattle.std.specs.Option.{option_and_then, option_map_or}
use Rattle.std.specs.Prelude.{Bool, IfSome, IsNone, IsSome, List, None, OnErr, OnOk, Option, Result, Some, [], drop, false, if◌then◌else◌, is_some, length, min, nat_eq, nat_lt, not, option_map, option_to_list, slice_get, true, ℕ, ℤ, ◌&&◌, ◌+◌, ◌++◌, ◌-◌, ◌<◌, ◌==◌, ◌^◌, ◌||◌, ◌∷◌, ◌≡◌, ◌≤◌, ◌↔◌}
use Rattle.wire_flows.proofs.Answering.{there_found}
use Rattle.wire_flows.proofs.Boards.{changes_none, opens, risen_already, rises, unknown_unwatched, write_known, write_of, write_seen}
use Rattle.wire_flows.proofs.Cases.{by_case, not_both}
use Rattle.wire_flows.proofs.Crossings.{crosses}
use Rattle.wire_flows.proofs.Found.{flow_is}
use Rattle.wire_flows.proofs.Telling.{go_told, told_goes}
use Rattle.wire_flows.proofs.Writing.{go_untold}
use Rattle.wire_flows.specs.Begins.{Crosses, DrainsIf, RisesIf, lows_left}
use Rattle.wire_flows.specs.Flows.{Flows, IsThere, flow_in, goes_to, watches_of}
use Rattle.wire_flows.specs.Measure.{to_go}
use Rattle.wire_flows.specs.Moves.{buffer_at}
use Rattle.wire_flows.specs.Sound.{IsSound, IsWhole, MarksAre, turn_cmp}
use Rattle.wire_flows.specs.Writes.{ChangesWrite, new_write, raised, write_at}
use Rattle.flow_rules.specs.declared.ids.BufferId.TheVariants as buffer

-- ---- nothing yet
no_exchange : (ex : Exchanges) (x : ℕ) → ex.live ≡ [] → exchange_at ex x ≡ None
unfolding exchange_at
no_exchange ex x e = ap (λ es. lookup (nat_eq x) es) e

pub sound_new : (ex : Exchanges) (board : Board) → ex.live ≡ [] → AreSoundExchanges ex → IsEmptyBoard board → AreSoundGates board → IsSound (record { exchanges = ex; gates = board })
unfolding IsStrictlySortedBy
sound_new ex board none sound empty gates = record {
  exchanges = sound;
  gates = gates;
  each = λ x. subst (λ o. IfSome o IsWhole) (sym (no_exchange ex x none)) tt;
  there = λ f. empty.flows f ∙ sym (ap is_some (no_flow f));
  watched = λ f. empty.watched f ∙ sym (ap (λ o. option_map_or (watches_of (target_of ex f)) o []) (no_flow f));
  own = λ f b own known. not_both (is_known board b) known (empty.buffers b);
  marks = λ f. subst (λ o. IfSome o (MarksAre board)) (sym (no_flow f)) tt;
  told = λ f. empty.pending (buffer.Send f);
  order = λ c. subst (λ fs. IsStrictlySortedBy turn_cmp fs) (sym (empty.watchers (buffer.Write c))) tt;
}
  where
    no_flow : (f : FlowId) → flow_at ex f ≡ None
    no_flow f = ap (option_and_then (side_of f.back)) (no_exchange ex f.exchange none)

-- ---- what goes next is within its bounds
pub record IsBodyWithin (room : ℤ) (frame n : ℕ) : Type 0 where
  pub frame_is : n ≤ frame
  pub room_is : n ≤ octets_of room
  pub small : n < 2 ^ 24

pub body_within : (state : FlowState) (room : ℤ) (frame n : ℕ) (last : Bool) → state.frame ≡ min frame (octets_of room) → state.quantum ≤ 1048576 → first_unit state ≡ Body n last → IsBodyWithin room frame n
body_within state room frame n last e few is = by_case state.head_waits
    (λ waits. head (head_may_go state) (sym (ap (λ b. if b then (if head_may_go state then Head state.head_ends else Nothing) else (if nat_lt 0 (carried state) then Body (carried state) (carries_end state (carried state)) else (if not (ends_after state 0) || state.end_framed then Nothing else (if state.trailers_wait then Trailers else Body 0 true)))) waits) ∙ is))
    (λ none. rest (sym (ap (λ b. if b then (if head_may_go state then Head state.head_ends else Nothing) else (if nat_lt 0 (carried state) then Body (carried state) (carries_end state (carried state)) else (if not (ends_after state 0) || state.end_framed then Nothing else (if state.trailers_wait then Trailers else Body 0 true)))) none) ∙ is))
  where
    head : (b : Bool) → (if b then Head state.head_ends else Nothing) ≡ Body n last → IsBodyWithin room frame n
    head true t = cc
    head false t = cc

    carried_is : carried state ≡ n → IsBodyWithin room frame n
    carried_is t = record {
      frame_is = omega (arith, t, e);
      room_is = omega (arith, t, e);
      small = omega (arith, t, few);
    }

    empty : 0 ≡ n → IsBodyWithin room frame n
    empty t = record { frame_is = omega (arith, t); room_is = omega (arith, t); small = omega (arith, t) }

    end : (a b : Bool) → (if a then Nothing else (if b then Trailers else Body 0 true)) ≡ Body n last → IsBodyWithin room frame n
    end true b t = cc
    end false true t = cc
    end false false t = let m : 0 ≡ n = cc in empty m

    rest : (if nat_lt 0 (carried state) then Body (carried state) (carries_end state (carried state)) else (if not (ends_after state 0) || state.end_framed then Nothing else (if state.trailers_wait then Trailers else Body 0 true))) ≡ Body n last → IsBodyWithin room frame n
    rest t = by_case (nat_lt 0 (carried state))
        (λ some.
        let same : Body (carried state) (carries_end state (carried state)) ≡ Body n last = sym (ap (λ b. if b then Body (carried state) (carries_end state (carried state)) else (if not (ends_after state 0) || state.end_framed then Nothing else (if state.trailers_wait then Trailers else Body 0 true))) some) ∙ t in
        let m : carried state ≡ n = cc in carried_is m)
        (λ none. end (not (ends_after state 0) || state.end_framed) state.trailers_wait (sym (ap (λ b. if b then Body (carried state) (carries_end state (carried state)) else (if not (ends_after state 0) || state.end_framed then Nothing else (if state.trailers_wait then Trailers else Body 0 true))) none) ∙ t))

pub unit_within : (f : FlowId) (old : Flows) (room : ℤ) (frame n : ℕ) (last : Bool) (unit : NextUnit) → IsSound old → IsThere old f → Some unit ≡ option_map (next_unit room frame) (flow_in old f) → unit ≡ Body n last → IsBodyWithin room frame n
unit_within f old room frame n last unit s there is e =
    let found = there_found old f there in
    let same : unit ≡ next_unit room frame found.0 = same_Some unit (next_unit room frame found.0) (is ∙ ap (option_map (next_unit room frame)) found.1) in
    body_within (ungated room frame found.0) room frame n last refl (flow_is old.exchanges f found.0 s.exchanges found.1).sound.chain.quantum.1 (sym same ∙ e)

-- ---- write buffers
pub write_none : (c : ℕ) (flows : Flows) → is_known flows.gates (buffer.Write c) ≡ false → write_at c flows ≡ None
write_none c flows e = write_seen c flows ∙ ap (λ b. write_of b (is_marked flows.gates (buffer.Write c)) (pending_on flows.gates (buffer.Write c))) e

pub known_write : (c : ℕ) (flows : Flows) → is_known flows.gates (buffer.Write c) ≡ true → write_at c flows ≡ None → ⊥
known_write c flows known none = absurd (apart (is_some (write_at c flows)) (write_known c flows ∙ known) (ap is_some none))
  where
    apart : (b : Bool) → b ≡ true → b ≡ false → ⊥
    apart true e f = cc
    apart false e f = cc

pub raised_write : (c : ℕ) (b : Bool) (old : Flows) (board : Board) → (is_known old.gates (buffer.Write c) && not (is_marked old.gates (buffer.Write c))) ≡ b → RisesIf b (buffer.Write c) old.gates board
    → ChangesWrite c (option_map (raised true) (write_at c old)) old (record { exchanges = old.exchanges; gates = board })
raised_write c true old board e k = rises c old (record { exchanges = old.exchanges; gates = board }) (first (is_known old.gates (buffer.Write c)) (not (is_marked old.gates (buffer.Write c))) e) k
  where
    first : (a b : Bool) → (a && b) ≡ true → a ≡ true
    first true b e = refl
    first false b e = cc
raised_write c false old board e k = subst (λ x. ChangesWrite c (option_map (raised true) (write_at c old)) old (record { exchanges = old.exchanges; gates = x })) (sym k) (changes_none c old (option_map (raised true) (write_at c old)) (risen_already c old e))

-- ---- whom a call told
pub told_if_goes : (c : ℕ) (result : Option FlowId) (old : Flows) (board : Board) → IsSound old → Tells (buffer.Write c) (option_to_list result) old.gates board → IfSome result (λ f. goes_to old f ≡ Some c)
told_if_goes c None old board s t = tt
told_if_goes c (Some f) old board s t = told_goes c f old board s t

pub told_if_less : (c : ℕ) (result : Option FlowId) (old : Flows) (board : Board) → IsSound old → Tells (buffer.Write c) (option_to_list result) old.gates board → IfSome result (λ f. to_go (record { exchanges = old.exchanges; gates = board }) + 16 ≤ to_go old)
told_if_less c None old board s t = tt
told_if_less c (Some f) old board s t = go_told c f old board s t

pub told_most : (c : ℕ) (result : Option FlowId) (old : Flows) (board : Board) → IsSound old → Tells (buffer.Write c) (option_to_list result) old.gates board → to_go (record { exchanges = old.exchanges; gates = board }) ≤ to_go old
told_most c None old board s t = same (to_go (record { exchanges = old.exchanges; gates = board })) (to_go old) (go_untold old board (λ d. sym (t.pending (buffer.Write d) ∙ either (c == d) (pending_on board (buffer.Write d)))))
  where
    same : (a b : ℕ) → a ≡ b → a ≤ b
    same a b e = omega (arith, e)

    either : (b : Bool) (fs : List FlowId) → (if b then [] else []) ++ fs ≡ fs
    either true fs = refl
    either false fs = refl
told_most c (Some f) old board s t = less (to_go (record { exchanges = old.exchanges; gates = board })) (to_go old) (go_told c f old board s t)
  where
    less : (a b : ℕ) → a + 16 ≤ b → a ≤ b
    less a b l = omega (arith, l)

-- ---- the buffer behind the last stage
pub send_next : (f : FlowId) (place : ℕ) (ex : Exchanges) (r : Option ℕ) → AreSoundExchanges ex → 1 ≤ place → r ≡ option_map stages_of (flow_at ex f) → r ≡ Some (place - 1) → IfSome (flow_at ex f) (λ flow. buffer.Send f ≡ buffer_at f flow place)
send_next f place ex r s first is e = by_found (flow_at ex f) refl (sym is ∙ e)
  where
    same : (l p : ℕ) → 1 ≤ l → 1 ≤ p → l - 1 ≡ p - 1 → (p == l) ≡ true
    same l p a b e = let q : p ≡ l = omega (arith, a, b, e) in grind (arith, nat_tests)

    by_found : (o : Option Flow) → flow_at ex f ≡ o → option_map stages_of o ≡ Some (place - 1) → IfSome o (λ flow. buffer.Send f ≡ buffer_at f flow place)
    by_found None at e = tt
    by_found (Some flow) at e = sym (ap (λ b. if b then buffer.Send f else buffer.Stage f place) (same (last_place flow) place (flow_is ex f flow s at).sound.chain.few.0 first (same_Some (stages_of flow) (place - 1) e)))

-- ---- one buffer that wasn't known has no watchers
pub fresh_apart : (f : FlowId) (b : BufferId) (old mid : Board) → is_known old b ≡ false → Knows b old mid → times f (watchers_of mid b) ≡ 0
fresh_apart f b old mid unknown k = ap (times f) (k.watchers b ∙ unknown_unwatched old b unknown)

-- ---- a step's crossings
pub both_cross : (f : FlowId) (o : Option Flow) (rose : Bool) (p q : ℕ) (low overflow : Bool) (old mid new : Board) → IfSome o (λ flow. RisesIf rose (buffer_at f flow q) old mid)
    → DrainsIf low (buffer.Stage f p) (lows_left overflow (watchers_of mid (buffer.Stage f p))) mid new
    → IfSome o (λ flow. Crosses rose (buffer_at f flow q) low (buffer.Stage f p) (lows_left overflow (watchers_of old (buffer.Stage f p))) old new)
both_cross f None rose p q low overflow old mid new r d = tt
both_cross f (Some flow) rose p q low overflow old mid new r d = crosses rose (buffer_at f flow q) low (buffer.Stage f p) (lows_left overflow (watchers_of old (buffer.Stage f p))) old mid new r
    (subst (λ ws. DrainsIf low (buffer.Stage f p) (lows_left overflow ws) mid new) (same rose r) d)
  where
    same : (rose : Bool) → RisesIf rose (buffer_at f flow q) old mid → watchers_of mid (buffer.Stage f p) ≡ watchers_of old (buffer.Stage f p)
    same true k = k.watchers (buffer.Stage f p)
    same false e = ap (λ b. watchers_of b (buffer.Stage f p)) e

-- ---- a write buffer that doesn't drain now
pub some_left : (marked : Bool) (lows : List FlowId) (some : Bool) → ((some ≡ false) ↔ (lows ≡ [])) → some ≡ true → (marked && (length lows == 0)) ≡ false
some_left marked [] some is there = not_both some there (is.1 refl)
some_left marked (f ∷ lows) some is there = let more : (length (f ∷ lows) == 0) ≡ false = grind (arith, nat_tests) in ap (λ b. marked && b) more ∙ and_none marked
  where
    and_none : (b : Bool) → (b && false) ≡ false
    and_none true = refl
    and_none false = refl

pub not_above : (marked : Bool) (lows : List FlowId) → marked ≡ false → (marked && (length lows == 0)) ≡ false
not_above marked lows e = ap (λ b. b && (length lows == 0)) e
