-- What a doom leaves of the exchanges and the gates.
use Rattle.exchange_core.specs.Changes.{Dooms, ForgetsFlows, ForgetsIf}
use Rattle.exchange_core.specs.Exchange.{flow_id, flow_in as side_of, goes_to as side_goes}
use Rattle.exchange_core.specs.Exchanges.{Exchanges, IsSound as AreSoundExchanges, exchange_at, flow_at, is_live, target_of}
use Rattle.exchange_core.specs.Flow.{Flow}
use Rattle.exchange_core.specs.declared.exchange.Exchange.{Exchange}
use Rattle.flow_gate.proofs.SameIds.{same_flow_exact}
use Rattle.flow_gate.proofs.Sound.{times-without}
use Rattle.flow_gate.specs.Board.{Board, IsSound as AreSoundGates, is_known, is_marked, is_open, pending_on, times, watched_by, watchers_of}
use Rattle.flow_gate.specs.Changes.{Forgets, goes_with, without}
use Rattle.flow_gate.specs.Ids.{is_own, same_flow}
use Rattle.flow_rules.specs.declared.ids.BufferId.{BufferId}
use Rattle.flow_rules.specs.declared.ids.FlowId.{FlowId}
use Rattle.std.proofs.Common.{ap, arith, refl, subst, sym, ◌∙◌}
use Rattle.std.proofs.lemmas.List.Kept.{IsStrictlySortedBy-filter}
use Rattle.std.proofs.lemmas.Option.{none-some}
use Rattle.std.specs.Option.{option_and_then, option_map_or}
use Rattle.std.specs.Prelude.{Bool, IfSome, List, None, Option, Some, [], false, if◌then◌else◌, is_some, length, not, option_map, true, ℕ, ◌&&◌, ◌*◌, ◌+◌, ◌==◌, ◌≡◌, ◌≤◌}
use Rattle.wire_flows.proofs.Boards.{keeps_writes, write_of, write_seen}
use Rattle.wire_flows.proofs.Cases.{by_case, if_found, not_both, number_is, same_number}
use Rattle.wire_flows.proofs.Found.{name_is}
use Rattle.wire_flows.proofs.Going.{all_at, go_changes}
use Rattle.wire_flows.proofs.Kept.{marks_other}
use Rattle.wire_flows.proofs.Owners.{no_one, own_exact}
use Rattle.wire_flows.proofs.Watched.{others_none}
use Rattle.wire_flows.specs.Flows.{Flows, flow_in, goes_to, is_there, left_in, watches_in, watches_of}
use Rattle.wire_flows.specs.Measure.{all_of, low_of, lows_of, to_go, way}
use Rattle.wire_flows.specs.Sound.{AreInOrder, IsSound, IsWhole, MarksAre, turn_cmp}
use Rattle.wire_flows.specs.Writes.{LeavesLows, LeavesWrites, left_by, lows_on, write_at}
use Rattle.flow_rules.specs.declared.ids.BufferId.TheVariants as buffer

-- what was forgotten of both flows
pub record Gone (x : ℕ) (old new : Board) : Type 0 where
  pub between : Board
  pub first : Forgets (flow_id x false) old between
  pub second : Forgets (flow_id x true) between new

forgets_if : (b : Bool) (f : FlowId) (old new : Board) → b ≡ true → ForgetsIf b f old new → Forgets f old new
forgets_if true f old new e is = is
forgets_if false f old new e is = cc

pub gone_of : (x : ℕ) (o : Option Exchange) (old new : Board) → is_some o ≡ true → IfSome o IsWhole → IfSome o (λ e. ForgetsFlows x e old new) → Gone x old new
gone_of x None old new some w is = cc
gone_of x (Some e) old new some w is = record { between = is.between; first = is.request_gone; second = forgets_if (is_some e.response) (flow_id x true) is.between new w.both is.response_gone }

-- the flow of an exchange is its request or its response
pub one_side : (x : ℕ) (g : FlowId) → (x == g.exchange) ≡ true → same_flow (flow_id x g.back) g ≡ true
one_side x g same = by_side (x == g.exchange) g.back same
  where
    by_side : (a b : Bool) → a ≡ true → (a && (if b then b else not b)) ≡ true
    by_side true true e = refl
    by_side true false e = refl
    by_side false b e = cc

pub no_side : (x : ℕ) (b : Bool) (g : FlowId) → (x == g.exchange) ≡ false → same_flow (flow_id x b) g ≡ false
no_side x b g other = ap (λ t. t && (if b then g.back else not g.back)) other

without_only : (f : FlowId) (fs : List FlowId) → ((g : FlowId) → same_flow f g ≡ false → times g fs ≡ 0) → without f fs ≡ []
without_only f fs none = no_one f (without f fs) (λ g. times-without f g fs ∙ by_case (same_flow f g)
    (λ same. ap (λ b. if b then 0 else times g fs) same)
    (λ apart. ap (λ b. if b then 0 else times g fs) apart ∙ none g apart))

module _ (x : ℕ) (old : Flows) (ex : Exchanges) (board : Board) (s : IsSound old) (d : Dooms x old.exchanges ex) (g : Gone x old.gates board) where
  abbrev after : Flows
  after = record { exchanges = ex; gates = board }

  at_gone : (y : ℕ) → (x == y) ≡ true → exchange_at ex y ≡ None
  at_gone y same = d.gone.live y ∙ ap (λ b. if b then None else exchange_at old.exchanges y) same

  at_other : (y : ℕ) → (x == y) ≡ false → exchange_at ex y ≡ exchange_at old.exchanges y
  at_other y other = d.gone.live y ∙ ap (λ b. if b then None else exchange_at old.exchanges y) other

  flow_gone : (f : FlowId) → (x == f.exchange) ≡ true → flow_at ex f ≡ None
  flow_gone f same = ap (option_and_then (side_of f.back)) (at_gone f.exchange same)

  flow_other : (f : FlowId) → (x == f.exchange) ≡ false → flow_at ex f ≡ flow_in old f
  flow_other f other = ap (option_and_then (side_of f.back)) (at_other f.exchange other)

  goes_other : (f : FlowId) → (x == f.exchange) ≡ false → target_of ex f ≡ goes_to old f
  goes_other f other = ap (option_and_then (side_goes f.back)) (at_other f.exchange other)

  -- ---- the gates
  open_is : (f : FlowId) → is_open board f ≡ (not (same_flow (flow_id x true) f) && (not (same_flow (flow_id x false) f) && is_open old.gates f))
  open_is f = g.second.flows f ∙ ap (λ b. not (same_flow (flow_id x true) f) && b) (g.first.flows f)

  shut : (f : FlowId) → (x == f.exchange) ≡ true → is_open board f ≡ false
  shut f same = open_is f ∙ by_side f.back (one_side x f same)
    where
      by_side : (b : Bool) → same_flow (flow_id x b) f ≡ true → (not (same_flow (flow_id x true) f) && (not (same_flow (flow_id x false) f) && is_open old.gates f)) ≡ false
      by_side true e = ap (λ t. not t && (not (same_flow (flow_id x false) f) && is_open old.gates f)) e
      by_side false e = ap (λ t. not (same_flow (flow_id x true) f) && (not t && is_open old.gates f)) e ∙ and_false (not (same_flow (flow_id x true) f))
        where
          and_false : (b : Bool) → (b && false) ≡ false
          and_false true = refl
          and_false false = refl

  open_other : (f : FlowId) → (x == f.exchange) ≡ false → is_open board f ≡ is_open old.gates f
  open_other f other = open_is f ∙ (λ i. not (no_side x true f other i) && (not (no_side x false f other i) && is_open old.gates f))

  watched_is : (f : FlowId) → watched_by board f ≡ (if same_flow (flow_id x true) f then [] else (if same_flow (flow_id x false) f then [] else watched_by old.gates f))
  watched_is f = g.second.watched f ∙ ap (λ bs. if same_flow (flow_id x true) f then [] else bs) (g.first.watched f)

  watched_gone : (f : FlowId) → (x == f.exchange) ≡ true → watched_by board f ≡ []
  watched_gone f same = watched_is f ∙ by_side f.back (one_side x f same)
    where
      by_side : (b : Bool) → same_flow (flow_id x b) f ≡ true → (if same_flow (flow_id x true) f then [] else (if same_flow (flow_id x false) f then [] else watched_by old.gates f)) ≡ []
      by_side true e = ap (λ t. if t then [] else (if same_flow (flow_id x false) f then [] else watched_by old.gates f)) e
      by_side false e = ap (λ t. if same_flow (flow_id x true) f then [] else (if t then [] else watched_by old.gates f)) e ∙ either (same_flow (flow_id x true) f)
        where
          either : (b : Bool) → ◌≡◌ {A = List BufferId} (if b then [] else []) []
          either true = refl
          either false = refl

  watched_other : (f : FlowId) → (x == f.exchange) ≡ false → watched_by board f ≡ watched_by old.gates f
  watched_other f other = watched_is f ∙ (λ i. if no_side x true f other i then [] else (if no_side x false f other i then [] else watched_by old.gates f))

  watchers_is : (b : BufferId) → watchers_of board b ≡ without (flow_id x true) (without (flow_id x false) (watchers_of old.gates b))
  watchers_is b = g.second.watchers b ∙ ap (without (flow_id x true)) (g.first.watchers b)

  pending_is : (b : BufferId) → pending_on board b ≡ without (flow_id x true) (without (flow_id x false) (pending_on old.gates b))
  pending_is b = g.second.pending b ∙ ap (without (flow_id x true)) (g.first.pending b)

  -- a buffer that is of neither flow stays
  not_own : (f : FlowId) (b : BufferId) (h : FlowId) → is_own f b ≡ true → same_flow h f ≡ false → is_own h b ≡ false
  not_own f b h own apart = by_case (is_own h b) (λ is. not_both (same_flow h f) (own_exact h f b is own) apart) (λ is. is)

  goes_first : (b : BufferId) → is_own (flow_id x false) b ≡ false → goes_with (flow_id x false) old.gates b ≡ false
  goes_first b own = ap (λ t. t && (length (without (flow_id x false) (watchers_of old.gates b)) == 0)) own

  goes_second : (b : BufferId) → is_own (flow_id x true) b ≡ false → goes_with (flow_id x true) g.between b ≡ false
  goes_second b own = ap (λ t. t && (length (without (flow_id x true) (watchers_of g.between b)) == 0)) own

  pub stays_known : (b : BufferId) → is_own (flow_id x false) b ≡ false → is_own (flow_id x true) b ≡ false → is_known board b ≡ is_known old.gates b
  stays_known b first second = g.second.buffers b ∙ (ap (λ t. not t && is_known g.between b) (goes_second b second)
      ∙ (g.first.buffers b ∙ ap (λ t. not t && is_known old.gates b) (goes_first b first)))

  pub stays_marked : (b : BufferId) → is_own (flow_id x false) b ≡ false → is_own (flow_id x true) b ≡ false → is_marked board b ≡ is_marked old.gates b
  stays_marked b first second = g.second.marks b ∙ (ap (λ t. not t && is_marked g.between b) (goes_second b second)
      ∙ (g.first.marks b ∙ ap (λ t. not t && is_marked old.gates b) (goes_first b first)))

  -- and of theirs none is known
  first_unknown : (b : BufferId) → is_own (flow_id x false) b ≡ true → is_known board b ≡ false
  first_unknown b own =
      let none = without_only (flow_id x false) (watchers_of old.gates b) (others_none old s (flow_id x false) b own) in
      let goes : goes_with (flow_id x false) old.gates b ≡ true = (λ i. own i && (length (none i) == 0)) in
      let gone : is_known g.between b ≡ false = g.first.buffers b ∙ ap (λ t. not t && is_known old.gates b) goes in
      g.second.buffers b ∙ (ap (λ t. not (goes_with (flow_id x true) g.between b) && t) gone ∙ and_false (not (goes_with (flow_id x true) g.between b)))
    where
      and_false : (b : Bool) → (b && false) ≡ false
      and_false true = refl
      and_false false = refl

  second_unknown : (b : BufferId) → is_own (flow_id x true) b ≡ true → is_known board b ≡ false
  second_unknown b own =
      let none = without_only (flow_id x true) (watchers_of g.between b) (λ h apart. ap (times h) (g.first.watchers b) ∙ (times-without (flow_id x false) h (watchers_of old.gates b) ∙ cut h (others_none old s (flow_id x true) b own h apart))) in
      let goes : goes_with (flow_id x true) g.between b ≡ true = (λ i. own i && (length (none i) == 0)) in
      g.second.buffers b ∙ ap (λ t. not t && is_known g.between b) goes
    where
      cut : (h : FlowId) → times h (watchers_of old.gates b) ≡ 0 → (if same_flow (flow_id x false) h then 0 else times h (watchers_of old.gates b)) ≡ 0
      cut h none = by_case (same_flow (flow_id x false) h)
          (λ same. ap (λ t. if t then 0 else times h (watchers_of old.gates b)) same)
          (λ apart. ap (λ t. if t then 0 else times h (watchers_of old.gates b)) apart ∙ none)

  -- ---- all of it
  own_after : (f : FlowId) (b : BufferId) → is_own f b ≡ true → is_known board b ≡ true → is_some (flow_at ex f) ≡ true
  own_after f b own known = by_case (x == f.exchange)
      (λ same. not_both (is_known board b) known (by_side f.back (one_side x f same)))
      (λ other. ap is_some (flow_other f other) ∙ s.own f b own (sym (stays_known b (not_own f b (flow_id x false) own (no_side x false f other)) (not_own f b (flow_id x true) own (no_side x true f other))) ∙ known))
    where
      is_his : (side : Bool) → same_flow (flow_id x side) f ≡ true → is_own (flow_id x side) b ≡ true
      is_his side same = subst (λ h. is_own h b ≡ true) (sym (same_flow_exact (flow_id x side) f same)) own

      by_side : (side : Bool) → same_flow (flow_id x side) f ≡ true → is_known board b ≡ false
      by_side true same = second_unknown b (is_his true same)
      by_side false same = first_unknown b (is_his false same)

  marks_after : (f : FlowId) → IfSome (flow_at ex f) (MarksAre board)
  marks_after f = by_case (x == f.exchange)
      (λ same. subst (λ o. IfSome o (MarksAre board)) (sym (flow_gone f same)) tt)
      (λ other. subst (λ o. IfSome o (MarksAre board)) (sym (flow_other f other)) (if_found (MarksAre old.gates) (MarksAre board) (flow_in old f)
      (λ flow found m. marks_other f f old.gates board flow (name_is old.exchanges f flow s.exchanges found)
      (λ b own. stays_marked b (not_own f b (flow_id x false) own (no_side x false f other)) (not_own f b (flow_id x true) own (no_side x true f other))) m) (s.marks f)))

  pub sound_gone : AreSoundExchanges ex → AreSoundGates board → IsSound after
  sound_gone sound gates = record {
    exchanges = sound;
    gates = gates;
    each = λ y. by_case (x == y)
        (λ same. subst (λ o. IfSome o IsWhole) (sym (at_gone y same)) tt)
        (λ other. subst (λ o. IfSome o IsWhole) (sym (at_other y other)) (s.each y));
    there = λ f. by_case (x == f.exchange)
        (λ same. shut f same ∙ sym (ap is_some (flow_gone f same)))
        (λ other. open_other f other ∙ (s.there f ∙ sym (ap is_some (flow_other f other))));
    watched = λ f. by_case (x == f.exchange)
        (λ same. watched_gone f same ∙ sym (ap (λ o. option_map_or (watches_of (target_of ex f)) o []) (flow_gone f same)))
        (λ other. watched_other f other ∙ (s.watched f ∙ sym (λ i. option_map_or (watches_of (goes_other f other i)) (flow_other f other i) [])));
    own = own_after;
    marks = marks_after;
    told = λ f. pending_is (buffer.Send f) ∙ ap (λ fs. without (flow_id x true) (without (flow_id x false) fs)) (s.told f);
    order = λ c. subst AreInOrder (sym (watchers_is (buffer.Write c)))
        (IsStrictlySortedBy-filter turn_cmp (λ h. not (same_flow (flow_id x true) h)) (without (flow_id x false) (watchers_of old.gates (buffer.Write c)))
        (IsStrictlySortedBy-filter turn_cmp (λ h. not (same_flow (flow_id x false) h)) (watchers_of old.gates (buffer.Write c)) (s.order c)));
  }

  -- ---- what callers look at
  pub live_gone : (y : ℕ) → is_live ex y ≡ (not (x == y) && is_live old.exchanges y)
  live_gone y = by_case (x == y)
      (λ same. ap is_some (at_gone y same) ∙ sym (ap (λ b. not b && is_live old.exchanges y) same))
      (λ other. ap is_some (at_other y other) ∙ sym (ap (λ b. not b && is_live old.exchanges y) other))

  pub left_gone : (f : FlowId) → left_in after f ≡ (if x == f.exchange then 0 else left_in old f)
  left_gone f = by_case (x == f.exchange)
      (λ same. ap (λ o. option_map_or (λ flow. length flow.recv) o 0) (flow_gone f same) ∙ sym (ap (λ b. if b then 0 else left_in old f) same))
      (λ other. ap (λ o. option_map_or (λ flow. length flow.recv) o 0) (flow_other f other) ∙ sym (ap (λ b. if b then 0 else left_in old f) other))

  pub writes_gone : LeavesWrites x old after
  writes_gone = record {
    writes = λ c. write_seen c after ∙ ((λ i. write_of (stays_known (buffer.Write c) refl refl i) (stays_marked (buffer.Write c) refl refl i) (pending_is (buffer.Write c) i))
        ∙ (left (is_known old.gates (buffer.Write c)) (is_marked old.gates (buffer.Write c)) (pending_on old.gates (buffer.Write c)) ∙ sym (ap (option_map (left_by x)) (write_seen c old))));
  }
    where
      left : (known above : Bool) (lows : List FlowId) → write_of known above (without (flow_id x true) (without (flow_id x false) lows)) ≡ option_map (left_by x) (write_of known above lows)
      left true above lows = refl
      left false above lows = refl

  pub lows_gone : LeavesLows x old after
  lows_gone = record { lows = pending_is }

  -- ---- what is to go
  low_other : (f : FlowId) → (x == f.exchange) ≡ false → low_of after f ≡ low_of old f
  low_other f other = ap (λ to. option_map_or (λ c. times f (lows_on c after)) to 0) (goes_other f other) ∙ by_target (goes_to old f)
    where
      stays : (h : FlowId) (fs : List FlowId) → same_flow h f ≡ false → times f (without h fs) ≡ times f fs
      stays h fs apart = times-without h f fs ∙ ap (λ b. if b then 0 else times f fs) apart

      by_target : (to : Option ℕ) → option_map_or (λ c. times f (lows_on c after)) to 0 ≡ option_map_or (λ c. times f (lows_on c old)) to 0
      by_target None = refl
      by_target (Some c) = ap (times f) (pending_is (buffer.Write c))
          ∙ (stays (flow_id x true) (without (flow_id x false) (lows_on c old)) (no_side x true f other) ∙ stays (flow_id x false) (lows_on c old) (no_side x false f other))

  all_other : (y : ℕ) → (x == y) ≡ false → all_at after y ≡ all_at old y
  all_other y other = ap (λ o. option_map_or (all_of after y) o 0) (at_other y other) ∙ by_found (exchange_at old.exchanges y)
    where
      by_found : (o : Option Exchange) → option_map_or (all_of after y) o 0 ≡ option_map_or (all_of old y) o 0
      by_found None = refl
      by_found (Some e) = λ i. way e + 16 * (low_other (flow_id y false) other i + low_other (flow_id y true) other i)

  pub go_gone : AreSoundExchanges ex → is_live old.exchanges x ≡ true → to_go after + 64 ≤ to_go old
  go_gone sound live =
      let none = ap (λ o. option_map_or (all_of after x) o 0) (at_gone x (same_number x)) in
      sums (to_go after) (to_go old) (all_at old x) (all_at after x) (go_changes x old after s.exchanges sound all_other) none (at_least (exchange_at old.exchanges x) live)
    where
      sums : (n o a b : ℕ) → n + a ≡ o + b → b ≡ 0 → 64 ≤ a → n + 64 ≤ o
      sums n o a b e z l = omega (arith, e, z, l)

      at_least : (o : Option Exchange) → is_some o ≡ true → 64 ≤ option_map_or (all_of old x) o 0
      at_least None some = cc
      at_least (Some e) some = omega arith
