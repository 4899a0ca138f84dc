-- All flows and gates once an exchange began.
use Rattle.exchange_core.specs.Changes.{Starts}
use Rattle.exchange_core.specs.Exchange.{begun, begun_flow, filters_of, flow_id, flow_in as side_of, goes_to as side_goes, multiple_of, side_filters}
use Rattle.exchange_core.specs.Exchanges.{Exchanges, IsSound as AreSoundExchanges, exchange_at, flow_at, is_live, target_of}
use Rattle.exchange_core.specs.Flow.{Flow}
use Rattle.exchange_core.specs.declared.exchange.Exchange.{Exchange}
use Rattle.exchange_core.specs.declared.start.StartSpec.{StartSpec}
use Rattle.flow_gate.proofs.Counting.{count-cons}
use Rattle.flow_gate.proofs.SameIds.{same_flow-refl, same_flow_exact}
use Rattle.flow_gate.specs.Board.{Board, IsSound as AreSoundGates, is_known, is_marked, is_open, pending_on, times, watched_by, watchers_of}
use Rattle.flow_gate.specs.Ids.{is_own, same_flow}
use Rattle.flow_rules.specs.declared.ids.BufferId.{BufferId}
use Rattle.flow_rules.specs.declared.ids.FlowId.{FlowId}
use Rattle.proxy_config.specs.declared.config.Config.{Config}
use Rattle.proxy_config.specs.declared.routes.Filter.{Filter}
use Rattle.std.proofs.Common.{Less, ap, arith, refl, subst, sym, ◌∙◌}
use Rattle.std.proofs.lemmas.Bool.Decides.{nat_tests}
use Rattle.std.proofs.lemmas.List.{append-nil}
use Rattle.std.proofs.lemmas.Option.{none-some}
use Rattle.std.specs.List.{AllByRecursion}
use Rattle.std.specs.List.Sorted.{IsStrictlySortedBy}
use Rattle.std.specs.Option.{option_and_then, option_map_or}
use Rattle.std.specs.Ordering.{nat_cmp}
use Rattle.std.specs.Prelude.{Bool, IfSome, IsSome, List, None, Option, Some, [], cond, false, if◌then◌else◌, is_some, length, not, true, ℕ, ◌&&◌, ◌*◌, ◌+◌, ◌++◌, ◌<◌, ◌==◌, ◌||◌, ◌∷◌, ◌≡◌, ◌≤◌}
use Rattle.wire_flows.proofs.Boards.{keeps_writes, unknown_low}
use Rattle.wire_flows.proofs.Cases.{by_case, if_found, not_both, number_is, same_number}
use Rattle.wire_flows.proofs.Doomed.{no_side, one_side}
use Rattle.wire_flows.proofs.Found.{name_is}
use Rattle.wire_flows.proofs.Going.{all_at, go_changes}
use Rattle.wire_flows.proofs.Kept.{marks_other}
use Rattle.wire_flows.proofs.Owners.{own_exact}
use Rattle.wire_flows.proofs.Restored.{closed_low}
use Rattle.wire_flows.proofs.Starts.{new_marks, new_watches, response_new, way_begun, whole_new}
use Rattle.wire_flows.proofs.Watched.{watcher_goes}
use Rattle.wire_flows.specs.Begins.{BeginsBoth, IsFresh, is_target, watches_from}
use Rattle.wire_flows.specs.Flows.{Flows, KeepsLeft, flow_in, goes_to, is_there, left_in, watches_in, watches_of}
use Rattle.wire_flows.specs.Measure.{all_of, low_of, lows_of, to_go, way}
use Rattle.wire_flows.specs.Sound.{AreInOrder, IsSound, IsWhole, MarksAre, turn_cmp, turn_of}
use Rattle.wire_flows.specs.Writes.{KeepsLows, KeepsWrites, lows_on}
use Rattle.flow_rules.specs.declared.ids.BufferId.TheVariants as buffer

-- ---- lists in order
module _ (f : FlowId) where
  in_order_more : (fs : List FlowId) → AllByRecursion (λ g. turn_cmp g f ≡ Less) fs → AreInOrder fs → AreInOrder (fs ++ f ∷ [])
  unfolding IsStrictlySortedBy
  in_order_more [] all s = (tt, tt)
  in_order_more (g ∷ gs) all s = (last g gs all.0 s.0, in_order_more gs all.1 s.1)
    where
      last : (g : FlowId) (gs : List FlowId) → turn_cmp g f ≡ Less → AllByRecursion (λ h. turn_cmp g h ≡ Less) gs → AllByRecursion (λ h. turn_cmp g h ≡ Less) (gs ++ f ∷ [])
      last g [] less all = (less, tt)
      last g (h ∷ hs) less all = (all.0, last g hs less all.1)

in_order_if : (f : FlowId) (b : Bool) (fs : List FlowId) → AllByRecursion (λ g. turn_cmp g f ≡ Less) fs → AreInOrder fs → AreInOrder (fs ++ (if b then f ∷ [] else []))
in_order_if f true fs all s = in_order_more f fs all s
in_order_if f false fs all s = subst AreInOrder (sym (append-nil fs)) s

-- what holds of each that is counted holds of all
all_counted : (P : FlowId → Type 0) (fs : List FlowId) → ((g : FlowId) → 1 ≤ times g fs → P g) → AllByRecursion P fs
all_counted P [] k = tt
all_counted P (g ∷ gs) k = (k g (first g gs), all_counted P gs (λ h some. k h (later h g gs some)))
  where
    first : (g : FlowId) (gs : List FlowId) → 1 ≤ times g (g ∷ gs)
    first g gs = let one : cond (same_flow g g) 1 0 ≡ 1 = ap {B = ℕ} (λ b. cond b 1 0) (same_flow-refl g) in omega (arith, count-cons (same_flow g) g gs, one)

    later : (h g : FlowId) (gs : List FlowId) → 1 ≤ times h gs → 1 ≤ times h (g ∷ gs)
    later h g gs some = omega (arith, count-cons (same_flow h) g gs, some)

all_more : (P : FlowId → Type 0) (fs : List FlowId) (b : Bool) (f : FlowId) → AllByRecursion P fs → P f → AllByRecursion P (fs ++ (if b then f ∷ [] else []))
all_more P [] true f all is = (is, tt)
all_more P [] false f all is = tt
all_more P (g ∷ gs) b f all is = (all.0, all_more P gs b f all.1 is)

turn_less : (a b : ℕ) → a < b → nat_cmp a b ≡ Less
turn_less a b l = grind (arith, nat_tests)

before : (g f : FlowId) → g.exchange < f.exchange → turn_cmp g f ≡ Less
before g f l = turn_less (turn_of g) (turn_of f) (by_sides g.back f.back)
  where
    by_sides : (a b : Bool) → 2 * g.exchange + (if a then 1 else 0) < 2 * f.exchange + (if b then 1 else 0)
    by_sides true true = omega (arith, l)
    by_sides true false = omega (arith, l)
    by_sides false true = omega (arith, l)
    by_sides false false = omega (arith, l)

-- ---- an exchange that wasn't there
module _ (x : ℕ) (spec : StartSpec) (config : Config) (wire : spec.plain ≡ false) (old : Flows) (ex : Exchanges) (board : Board) (s : IsSound old)
    (st : Starts x spec config old.exchanges ex) (greater : old.exchanges.last < x)
    (b : BeginsBoth x (watches_from (flow_id x false) (filters_of (side_filters false) spec.row config) spec.to_conn) (watches_from (flow_id x true) (filters_of (side_filters true) spec.row config) (Some spec.from_conn)) spec.to_conn spec.from_conn old.gates board) where
  abbrev after : Flows
  after = record { exchanges = ex; gates = board }

  pub new_dead : exchange_at old.exchanges x ≡ None
  new_dead = by_found (exchange_at old.exchanges x) refl
    where
      by_found : (o : Option Exchange) → exchange_at old.exchanges x ≡ o → o ≡ None
      by_found None e = refl
      by_found (Some e) is = absurd (too_great old.exchanges.last x greater (s.exchanges.below x (ap is_some is)))
        where
          too_great : (l x : ℕ) → l < x → x ≤ l → ⊥
          too_great l x a c = omega (arith, a, c)

  at_new : (y : ℕ) → (x == y) ≡ true → exchange_at ex y ≡ Some (begun x spec config)
  at_new y same = st.live y ∙ ap (λ t. if t then Some (begun x spec config) else exchange_at old.exchanges y) same

  at_other : (y : ℕ) → (x == y) ≡ false → exchange_at ex y ≡ exchange_at old.exchanges y
  at_other y other = st.live y ∙ ap (λ t. if t then Some (begun x spec config) else exchange_at old.exchanges y) other

  abbrev request_flow : Flow
  request_flow = begun_flow (flow_id x false) (filters_of (side_filters false) spec.row config) spec (multiple_of spec config)

  abbrev response_flow : Flow
  response_flow = begun_flow (flow_id x true) (filters_of (side_filters true) spec.row config) spec config.limits.overflow_multiple

  abbrev new_flow : Bool → Flow
  new_flow side = if side then response_flow else request_flow

  side_new : (side : Bool) → side_of side (begun x spec config) ≡ Some (new_flow side)
  side_new false = refl
  side_new true = response_new x spec config wire

  flow_new : (f : FlowId) → (x == f.exchange) ≡ true → flow_at ex f ≡ Some (new_flow f.back)
  flow_new f same = ap (option_and_then (side_of f.back)) (at_new f.exchange same) ∙ side_new f.back

  flow_other : (f : FlowId) → (x == f.exchange) ≡ false → flow_at ex f ≡ flow_in old f
  flow_other f other = ap (option_and_then (side_of f.back)) (at_other f.exchange other)

  goes_other : (f : FlowId) → (x == f.exchange) ≡ false → target_of ex f ≡ goes_to old f
  goes_other f other = ap (option_and_then (side_goes f.back)) (at_other f.exchange other)

  abbrev target_new : Bool → Option ℕ
  target_new side = if side then Some spec.from_conn else spec.to_conn

  goes_side : (side : Bool) → side_goes side (begun x spec config) ≡ target_new side
  goes_side false = refl
  goes_side true = refl

  pub goes_new : (f : FlowId) → (x == f.exchange) ≡ true → target_of ex f ≡ target_new f.back
  goes_new f same = ap (option_and_then (side_goes f.back)) (at_new f.exchange same) ∙ goes_side f.back

  dead_flow : (f : FlowId) → (x == f.exchange) ≡ true → flow_in old f ≡ None
  dead_flow f same = ap (λ y. option_and_then (side_of f.back) (exchange_at old.exchanges y)) (sym (number_is x f.exchange same)) ∙ ap (option_and_then (side_of f.back)) new_dead

  pub shut : (side : Bool) → is_open old.gates (flow_id x side) ≡ false
  shut side = s.there (flow_id x side) ∙ ap is_some (dead_flow (flow_id x side) (same_number x))

  -- ---- the gates
  open_is : (f : FlowId) → is_open board f ≡ (same_flow (flow_id x true) f || (same_flow (flow_id x false) f || is_open old.gates f))
  open_is f = b.response_begins.flows f ∙ ap (λ t. same_flow (flow_id x true) f || t) (b.request_begins.flows f)

  watched_is : (f : FlowId) → watched_by board f ≡ (if same_flow (flow_id x true) f then watches_from (flow_id x true) (filters_of (side_filters true) spec.row config) (Some spec.from_conn)
      else (if same_flow (flow_id x false) f then watches_from (flow_id x false) (filters_of (side_filters false) spec.row config) spec.to_conn else watched_by old.gates f))
  watched_is f = b.response_begins.watched f ∙ ap (λ bs. if same_flow (flow_id x true) f then watches_from (flow_id x true) (filters_of (side_filters true) spec.row config) (Some spec.from_conn) else bs) (b.request_begins.watched f)

  pub marks_same : (c : BufferId) → is_marked board c ≡ is_marked old.gates c
  marks_same c = b.response_begins.marks c ∙ b.request_begins.marks c

  pub pending_same : (c : BufferId) → pending_on board c ≡ pending_on old.gates c
  pending_same c = b.response_begins.pending c ∙ b.request_begins.pending c

  pub known_same : (c : BufferId) → is_own (flow_id x false) c ≡ false → is_own (flow_id x true) c ≡ false → is_known board c ≡ is_known old.gates c
  known_same c first second = b.response_begins.buffers c second ∙ b.request_begins.buffers c first

  -- none of its buffers was known
  pub fresh : (side : Bool) → IsFresh (flow_id x side) old.gates
  fresh side = record {
    unknown = λ c own. by_case (is_known old.gates c)
        (λ known. not_both (is_there old (flow_id x side)) (s.own (flow_id x side) c own known) (ap is_some (dead_flow (flow_id x side) (same_number x))))
        (λ none. none);
  }

  -- ---- its flows
  abbrev filters_at : Bool → List Filter
  filters_at side = filters_of (side_filters side) spec.row config

  watched_side : (side : Bool) → watched_by board (flow_id x side) ≡ watches_from (flow_id x side) (filters_at side) (target_new side)
  watched_side true = watched_is (flow_id x true)
      ∙ ap (λ t. if t && true then watches_from (flow_id x true) (filters_at true) (Some spec.from_conn) else (if (x == x) && false then watches_from (flow_id x false) (filters_at false) spec.to_conn else watched_by old.gates (flow_id x true))) (same_number x)
  watched_side false = watched_is (flow_id x false)
      ∙ ap (λ t. if t && false then watches_from (flow_id x true) (filters_at true) (Some spec.from_conn) else (if t && true then watches_from (flow_id x false) (filters_at false) spec.to_conn else watched_by old.gates (flow_id x false))) (same_number x)

  watches_side : (side : Bool) → watches_in after (flow_id x side) ≡ watches_from (flow_id x side) (filters_at side) (target_new side)
  watches_side side = (λ i. option_map_or (watches_of (goes_new (flow_id x side) (same_number x) i)) (flow_new (flow_id x side) (same_number x) i) []) ∙ by_side side
    where
      by_side : (side : Bool) → watches_of (target_new side) (new_flow side) ≡ watches_from (flow_id x side) (filters_at side) (target_new side)
      by_side true = new_watches (flow_id x true) (filters_at true) spec config.limits.overflow_multiple (Some spec.from_conn)
      by_side false = new_watches (flow_id x false) (filters_at false) spec (multiple_of spec config) spec.to_conn

  side_is : (f : FlowId) → (x == f.exchange) ≡ true → flow_id x f.back ≡ f
  side_is f same = same_flow_exact (flow_id x f.back) f (one_side x f same)

  open_new : (f : FlowId) → (x == f.exchange) ≡ true → is_open board f ≡ true
  open_new f same = ap (is_open board) (sym (side_is f same)) ∙ (open_is (flow_id x f.back) ∙ by_side f.back)
    where
      by_side : (side : Bool) → (same_flow (flow_id x true) (flow_id x side) || (same_flow (flow_id x false) (flow_id x side) || is_open old.gates (flow_id x side))) ≡ true
      by_side true = ap (λ t. (t && true) || (((x == x) && false) || is_open old.gates (flow_id x true))) (same_number x)
      by_side false = ap (λ t. (t && false) || ((t && true) || is_open old.gates (flow_id x false))) (same_number x)

  not_new : (f : FlowId) (c : BufferId) (side : Bool) → is_own f c ≡ true → (x == f.exchange) ≡ false → is_own (flow_id x side) c ≡ false
  not_new f c side own other = by_case (is_own (flow_id x side) c)
      (λ is. not_both (same_flow (flow_id x side) f) (own_exact (flow_id x side) f c is own) (no_side x side f other))
      (λ is. is)

  low_own : (side : Bool) (c : BufferId) → is_own (flow_id x side) c ≡ true → is_marked board c ≡ false
  low_own side c own = marks_same c ∙ unknown_low old.gates c ((fresh side).unknown c own)

  marks_new : (side : Bool) → MarksAre board (new_flow side)
  marks_new true = new_marks (flow_id x true) (filters_at true) spec config.limits.overflow_multiple board (low_own true)
  marks_new false = new_marks (flow_id x false) (filters_at false) spec (multiple_of spec config) board (low_own false)

  -- ---- who watches a write buffer is older
  watcher_old : (c : ℕ) (g : FlowId) → 1 ≤ times g (watchers_of old.gates (buffer.Write c)) → g.exchange < x
  watcher_old c g some = by_found (exchange_at old.exchanges g.exchange) refl (watcher_goes old s c g some)
    where
      by_found : (o : Option Exchange) → exchange_at old.exchanges g.exchange ≡ o → option_and_then (side_goes g.back) (exchange_at old.exchanges g.exchange) ≡ Some c → g.exchange < x
      by_found None e goes = absurd (none-some c (sym (ap (option_and_then (side_goes g.back)) e) ∙ goes))
      by_found (Some e) is goes = less g.exchange old.exchanges.last x (s.exchanges.below g.exchange (ap is_some is)) greater
        where
          less : (a l x : ℕ) → a ≤ l → l < x → a < x
          less a l x p q = omega (arith, p, q)

  order_new : (c : ℕ) → AreInOrder (watchers_of board (buffer.Write c))
  order_new c =
      let w = watchers_of old.gates (buffer.Write c) in
      let q = flow_id x false in
      let r = flow_id x true in
      let first = w ++ (if is_target c spec.to_conn then q ∷ [] else []) in
      let all_q = all_counted (λ g. turn_cmp g q ≡ Less) w (λ g some. before g q (watcher_old c g some)) in
      let all_r = all_more (λ g. turn_cmp g r ≡ Less) w (is_target c spec.to_conn) q (all_counted (λ g. turn_cmp g r ≡ Less) w (λ g some. before g r (watcher_old c g some))) (turn_less (2 * x + 0) (2 * x + 1) (omega arith)) in
      subst AreInOrder (sym (b.response_begins.writes c ∙ ap (λ ws. ws ++ (if is_target c (Some spec.from_conn) then r ∷ [] else [])) (b.request_begins.writes c)))
      (in_order_if r (is_target c (Some spec.from_conn)) (w ++ (if is_target c spec.to_conn then q ∷ [] else [])) all_r (in_order_if q (is_target c spec.to_conn) w all_q (s.order c)))

  -- ---- all of it
  pub sound_started : AreSoundExchanges ex → AreSoundGates board → IsSound after
  sound_started sound gates = record {
    exchanges = sound;
    gates = gates;
    each = λ y. by_case (x == y)
        (λ same. subst (λ o. IfSome o IsWhole) (sym (at_new y same)) (whole_new x spec config wire))
        (λ other. subst (λ o. IfSome o IsWhole) (sym (at_other y other)) (s.each y));
    there = λ f. by_case (x == f.exchange)
        (λ same. open_new f same ∙ sym (ap is_some (flow_new f same)))
        (λ other. open_is f ∙ ((λ i. no_side x true f other i || (no_side x false f other i || is_open old.gates f)) ∙ (s.there f ∙ sym (ap is_some (flow_other f other)))));
    watched = λ f. by_case (x == f.exchange)
        (λ same. ap (watched_by board) (sym (side_is f same)) ∙ (watched_side f.back ∙ (sym (watches_side f.back) ∙ ap (watches_in after) (side_is f same))))
        (λ other. watched_is f ∙ ((λ i. if no_side x true f other i then watches_from (flow_id x true) (filters_at true) (Some spec.from_conn) else (if no_side x false f other i then watches_from (flow_id x false) (filters_at false) spec.to_conn else watched_by old.gates f))
        ∙ (s.watched f ∙ sym (λ i. option_map_or (watches_of (goes_other f other i)) (flow_other f other i) []))));
    own = λ f c own known. by_case (x == f.exchange)
        (λ same. ap is_some (flow_new f same))
        (λ other. ap is_some (flow_other f other) ∙ s.own f c own (sym (known_same c (not_new f c false own other) (not_new f c true own other)) ∙ known));
    marks = λ f. by_case (x == f.exchange)
        (λ same. subst (λ o. IfSome o (MarksAre board)) (sym (flow_new f same)) (marks_new f.back))
        (λ other. subst (λ o. IfSome o (MarksAre board)) (sym (flow_other f other)) (if_found (MarksAre old.gates) (MarksAre board) (flow_in old f)
        (λ flow found m. marks_other f f old.gates board flow (name_is old.exchanges f flow s.exchanges found) (λ c own. marks_same c) m) (s.marks f)));
    told = λ f. pending_same (buffer.Send f) ∙ s.told f;
    order = order_new;
  }

  -- ---- what callers look at
  pub live_new : (y : ℕ) → is_live ex y ≡ ((x == y) || is_live old.exchanges y)
  live_new y = by_case (x == y)
      (λ same. ap is_some (at_new y same) ∙ sym (ap (λ t. t || is_live old.exchanges y) same))
      (λ other. ap is_some (at_other y other) ∙ sym (ap (λ t. t || is_live old.exchanges y) other))

  pub left_new : KeepsLeft old after
  left_new = record {
    left = λ f. by_case (x == f.exchange)
        (λ same. ap (λ o. option_map_or (λ flow. length flow.recv) o 0) (flow_new f same) ∙ (by_side f.back ∙ sym (ap (λ o. option_map_or (λ flow. length flow.recv) o 0) (dead_flow f same))))
        (λ other. ap (λ o. option_map_or (λ flow. length flow.recv) o 0) (flow_other f other));
  }
    where
      by_side : (side : Bool) → length (new_flow side).recv ≡ 0
      by_side true = refl
      by_side false = refl

  -- ---- what is to go
  low_other : (f : FlowId) → (x == f.exchange) ≡ false → low_of after f ≡ low_of old f
  low_other f other = ap (λ to. option_map_or (λ c. times f (lows_on c after)) to 0) (goes_other f other) ∙ by_target (goes_to old f)
    where
      by_target : (to : Option ℕ) → option_map_or (λ c. times f (lows_on c after)) to 0 ≡ option_map_or (λ c. times f (lows_on c old)) to 0
      by_target None = refl
      by_target (Some c) = ap (times f) (pending_same (buffer.Write c))

  low_new : (side : Bool) → low_of after (flow_id x side) ≡ 0
  low_new side = by_target (goes_to after (flow_id x side))
    where
      by_target : (to : Option ℕ) → option_map_or (λ c. times (flow_id x side) (lows_on c after)) to 0 ≡ 0
      by_target None = refl
      by_target (Some c) = ap (times (flow_id x side)) (pending_same (buffer.Write c)) ∙ closed_low old.gates (flow_id x side) (buffer.Write c) s.gates (shut side)

  all_other : (y : ℕ) → (x == y) ≡ false → all_at after y ≡ all_at old y
  all_other y other = ap (λ o. option_map_or (all_of after y) o 0) (at_other y other) ∙ by_found (exchange_at old.exchanges y)
    where
      by_found : (o : Option Exchange) → option_map_or (all_of after y) o 0 ≡ option_map_or (all_of old y) o 0
      by_found None = refl
      by_found (Some e) = λ i. way e + 16 * (low_other (flow_id y false) other i + low_other (flow_id y true) other i)

  pub go_started : AreSoundExchanges ex → to_go after ≤ to_go old + 144
  go_started sound =
      let there = ap (λ o. option_map_or (all_of after x) o 0) (at_new x (same_number x)) in
      let none = ap (λ o. option_map_or (all_of old x) o 0) new_dead in
      sums (to_go after) (to_go old) (all_at old x) (all_at after x) (way (begun x spec config)) (low_of after (flow_id x false)) (low_of after (flow_id x true)) (go_changes x old after s.exchanges sound all_other) none there (way_begun x spec config wire) (low_new false) (low_new true)
    where
      sums : (n o a c w l m : ℕ) → n + a ≡ o + c → a ≡ 0 → c ≡ w + 16 * (l + m) → w ≡ 144 → l ≡ 0 → m ≡ 0 → n ≤ o + 144
      sums n o a c w l m e1 e2 e3 e4 e5 e6 = omega (arith, e1, e2, e3, e4, e5, e6)

  -- the write buffers stay
  pub writes_new : KeepsWrites old after
  writes_new = keeps_writes old after (λ c. record { known = known_same (buffer.Write c) refl refl; above = marks_same (buffer.Write c); lows = pending_same (buffer.Write c) })

  pub lows_new : KeepsLows old after
  lows_new = record { lows = pending_same }

  -- where they go
  pub request_goes : goes_to after (flow_id x false) ≡ spec.to_conn
  request_goes = goes_new (flow_id x false) (same_number x)

  pub response_goes : goes_to after (flow_id x true) ≡ Some spec.from_conn
  response_goes = goes_new (flow_id x true) (same_number x)

  pub dead_before : is_live old.exchanges x ≡ false
  dead_before = ap is_some new_dead
