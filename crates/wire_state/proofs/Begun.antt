-- What the counts are where an exchange started, whose flows may be held back from the start.
use Rattle.exchange_core.specs.Changes.{Starts}
use Rattle.exchange_core.specs.Exchange.{begun, begun_flow, filters_of, flow_id, flow_in as side_of, goes_to as goes_of, multiple_of, side_filters}
use Rattle.exchange_core.specs.Exchanges.{exchange_at}
use Rattle.exchange_core.specs.Flow.{Flow}
use Rattle.exchange_core.specs.declared.start.StartSpec.{StartSpec}
use Rattle.filter_chain.specs.Chain.{place_at, stages}
use Rattle.filter_chain.specs.Place.{Place, empty_place, kind_of}
use Rattle.filter_chain.specs.declared.stage.StageKind.TheVariants as kind
use Rattle.flow_gate.specs.Board.{is_known, is_marked, lows, pending_on, times, watched_by}
use Rattle.flow_gate.specs.Ids.{same_flow}
use Rattle.flow_rules.specs.declared.ids.BufferId.{BufferId}
use Rattle.flow_rules.specs.declared.ids.BufferId.TheVariants as buffer
use Rattle.flow_rules.specs.declared.ids.FlowId.{FlowId}
use Rattle.flow_laws.proofs.Flags.{flag_now}
use Rattle.flow_laws.proofs.Lists.{count_cons, one_if}
use Rattle.flow_laws.proofs.Lives.{has_more}
use Rattle.flow_laws.proofs.Sources.{behind}
use Rattle.flow_notes.specs.declared.notes.Note.{Note}
use Rattle.flow_notes.specs.declared.notes.Note.TheVariants as note
use Rattle.flow_rules.specs.Kinds.{Kind}
use Rattle.flow_rules.specs.Kinds.{Hold as HoldKind, Meter as MeterKind, Send as SendKind}
use Rattle.paged_map.specs.PagedMap.{PagedMap}
use Rattle.proxy_config.specs.declared.config.Config.{Config}
use Rattle.proxy_config.specs.declared.config.LimitKeys.{LimitKeys}
use Rattle.proxy_config.specs.declared.routes.Filter.{Filter}
use Rattle.proxy_config.specs.declared.routes.Filter.TheVariants as filter
use Rattle.std.proofs.Common.{ap, arith, inl, inr, refl, subst, sym, ◌∙◌}
use Rattle.std.proofs.lemmas.Bool.Decides.{nat_tests}
use Rattle.std.proofs.lemmas.List.Sums.{sum_by-cons}
use Rattle.std.proofs.lemmas.Option.{same_Some}
use Rattle.std.specs.Option.{option_and_then, option_map_or, unwrap_or}
use Rattle.std.specs.Prelude.{Bool, IfSome, IsSome, List, None, Option, Some, [], count_by, false, if◌then◌else◌, is_some, length, not, slice_get, suc, sum_by, true, zero, ℕ, ◌&&◌, ◌++◌, ◌+◌, ◌<◌, ◌==◌, ◌||◌, ◌∷◌, ◌≡◌, ◌≤◌, ◌⊎◌}
use Rattle.tape_laws.specs.Dispatches.{has, live}
use Rattle.tape_laws.specs.Flows.{request, response}
use Rattle.tape_laws.specs.History.{Marked, Noted}
use Rattle.tape_laws.specs.Pauses.{pauses, resumes}
use Rattle.tape_laws.specs.Sources.{disabled}
use Rattle.tape_laws.specs.Units.{Hold, Meter, StageKind}
use Rattle.tape_laws.specs.Watermark.{above, limit}
use Rattle.tape_laws.specs.World.{last_place, place}
use Rattle.wire_flows.proofs.Boards.{write_of, write_seen}
use Rattle.wire_flows.proofs.Cases.{by_case}
use Rattle.wire_flows.proofs.Starts.{response_new}
use Rattle.wire_flows.specs.Flows.{Flows, flow_in, goes_to, is_live_in, watches_of}
use Rattle.wire_flows.specs.Sound.{IsSound, buffer_of}
use Rattle.wire_flows.specs.Writes.{KeepsLows, KeepsWrites, Write, is_above, write_at}
use Rattle.wire_flows.specs.declared.starting.Started.{Started}
use Rattle.wire_links.specs.Links.{Links}
use Rattle.wire_state.proofs.Filled.{unborn_watches}
use Rattle.wire_state.proofs.Grown.{never_above}
use Rattle.wire_state.proofs.Held.{is_number}
use Rattle.wire_state.proofs.Holding.{AreHolds, IsAlike, all_append, holds_alike, holds_paused, holds_resumed, holds_turns, noted, paused_append, paused_in, resumed_append, resumed_in}
use Rattle.wire_state.proofs.Overs.{over_then, still_goes}
use Rattle.wire_state.proofs.Promised.{same_place}
use Rattle.wire_state.proofs.Rising.{disabled_goes}
use Rattle.wire_state.proofs.Standing.{flow_still}
use Rattle.wire_state.proofs.Watching.{lows_same}
use Rattle.wire_state.specs.Counts.{AreOver, Counts, IsCounted, MayLag, holds_back}
use Rattle.wire_state.specs.Noting.{conn_number, held_of, hold_of}
use Rattle.wire_state.specs.Tapes.{conn_to, tape_setup}
use Rattle.wire_state.specs.Ways.{Passes, WayHistory, WayStep, after, goal_in, stages_of, stages_passed}
use Rattle.wire_state.specs.Worlds.{FlowIs, Stands}
use Rattle.wire_state.specs.declared.conn.Conn.{Conn}
use Rattle.wm_buffer.specs.Watermark.{above_after}

-- ---- the pauses of flows that are held back from the start
nothing_if : (b : Bool) (n : ℕ) → n ≡ 0 → (if b then n else 0) ≡ 0
nothing_if true n e = e
nothing_if false n e = refl

none_more : (n : ℕ) → n + 0 ≡ n
none_more n = omega arith

both_none : (a b : ℕ) → a ≡ 0 → b ≡ 0 → a + b ≡ 0
both_none a b e i = omega (arith, e, i)

hold_holds : (g : FlowId) (b : Bool) (to : Option ℕ) → AreHolds (hold_of g b to)
hold_holds g b None = tt
hold_holds g true (Some c) = (tt, tt)
hold_holds g false (Some c) = tt

hold_pauses : (f g : FlowId) (b : Bool) (to : Option ℕ) → paused_in f (hold_of g b to) ≡ (if same_flow g f then option_map_or (λ c. one_if b) to 0 else 0)
hold_pauses f g b None = sym (nothing_if (same_flow g f) 0 refl)
hold_pauses f g true (Some c) = none_more (if same_flow g f then 1 else 0)
hold_pauses f g false (Some c) = sym (nothing_if (same_flow g f) 0 refl)

hold_resumes : (f g : FlowId) (b : Bool) (to : Option ℕ) → resumed_in f (hold_of g b to) ≡ 0
hold_resumes f g b None = refl
hold_resumes f g true (Some c) = refl
hold_resumes f g false (Some c) = refl

-- ---- a flow whose own buffers aren't above
first_more : (x : Bool) (n m : ℕ) → x ≡ false → n ≡ m → one_if x + n ≡ m
first_more true n m e i = cc
first_more false n m e i = omega (arith, i)

own_none : (p : BufferId → Bool) (f : FlowId) → ((q : ℕ) → p (buffer.Stage f q) ≡ false) → p (buffer.Send f) ≡ false → (q : ℕ) (ss : List StageKind) (w : ℕ) (to : Option ℕ) → count_by p (behind f q ss w to) ≡ option_map_or (λ c. one_if (p (buffer.Write c))) to 0
own_none p f low send q [] w None = count_cons p (buffer.Send f) [] ∙ first_more (p (buffer.Send f)) _ _ send refl
own_none p f low send q [] w (Some c) = count_cons p (buffer.Send f) (buffer.Write c ∷ []) ∙ first_more (p (buffer.Send f)) _ _ send (count_cons p (buffer.Write c) [] ∙ none_more (one_if (p (buffer.Write c))))
own_none p f low send q (Hold n ∷ ss) w to = own_none p f low send (q + 1) ss w to
own_none p f low send q (Meter n rate ∷ ss) w to = count_cons p (buffer.Stage f q) (behind f (q + 1) ss w to) ∙ first_more (p (buffer.Stage f q)) _ _ (low q) (own_none p f low send (q + 1) ss w to)

sum_none : (p : BufferId → ℕ) → ((b : BufferId) → p b ≡ 0) → (bs : List BufferId) → sum_by p bs ≡ 0
sum_none p e [] = refl
sum_none p e (b ∷ bs) = sum_by-cons p b bs ∙ both_none _ _ (e b) (sum_none p e bs)

fresh_above : (fs : List Filter) (last : Place) (i : ℕ) (y : Place) → last.above ≡ false → slice_get (stages fs ++ last ∷ []) i ≡ Some y → y.above ≡ false
fresh_above [] last zero y e found = ap (λ (v : Place). v.above) (sym (same_Some last y found)) ∙ e
fresh_above [] last (suc i) y e found = cc
fresh_above (filter.Pass ∷ fs) last i y e found = fresh_above fs last i y e found
fresh_above (filter.Hold n ∷ fs) last zero y e found = ap (λ (v : Place). v.above) (sym (same_Some (empty_place kind.Hold n) y found))
fresh_above (filter.Hold n ∷ fs) last (suc i) y e found = fresh_above fs last i y e found
fresh_above (filter.Meter n rate ∷ fs) last zero y e found = ap (λ (v : Place). v.above) (sym (same_Some (empty_place (kind.Meter rate) n) y found))
fresh_above (filter.Meter n rate ∷ fs) last (suc i) y e found = fresh_above fs last i y e found

-- a write buffer that is known holds back where it is marked
known_holds : (e : ℕ) (flows : Flows) → IsSome (write_at e flows) → holds_back e flows ≡ is_above e flows
known_holds e flows some = at (is_known flows.gates (buffer.Write e)) (write_seen e flows) some
  where
    at : (b : Bool) → write_at e flows ≡ write_of b (is_marked flows.gates (buffer.Write e)) (pending_on flows.gates (buffer.Write e)) → IsSome (write_at e flows) → holds_back e flows ≡ is_above e flows
    at true i some = ap (λ (o : Option Write). option_map_or (λ w. w.above) o false) i
    at false i some = absurd (cc (subst IsSome i some))

module _ (l : LimitKeys) (x c s d : ℕ) (to : Option ℕ) (spec : StartSpec) (config : Config) (conns : PagedMap Conn) (old new : Flows) (b : Starts x spec config old.exchanges new.exchanges) (wire : spec.plain ≡ false)
    (number : x ≡ old.exchanges.last + 1) (request_goes : goes_to new (flow_id x false) ≡ to) (response_goes : goes_to new (flow_id x true) ≡ Some c) (writes : KeepsWrites old new) (lows_go : KeepsLows old new) (sound : IsSound new)
    (lives : (y : ℕ) → is_live_in new y ≡ ((x == y) || is_live_in old y)) (to_known : IfSome to (λ e. IsSome (write_at e old))) (from_known : IsSome (write_at c old))
    (rh sh : Bool) (rh_is : rh ≡ option_map_or (λ e. is_above e old) to false) (sh_is : sh ≡ is_above c old)
    (links links' : Links) (t u : Option ℕ) (h : WayHistory) (counts : Counts l t u conns old h) (stands : Stands l conns old links h) where
  abbrev passing : WayStep
  passing = Marked (Passes x spec.row to (stages_of (filters_of (side_filters false) spec.row config)) (stages_of (filters_of (side_filters true) spec.row config)))

  abbrev mid : WayHistory
  mid = passing ∷ h

  abbrev starting : WayStep
  starting = Noted (note.Start x c s d)

  abbrev then_ : WayHistory
  then_ = starting ∷ mid

  abbrev held : List Note
  held = hold_of (request x) rh to ++ hold_of (response x) sh (Some c)

  abbrev k : WayHistory
  k = after (noted held) then_

  held_holds : AreHolds held
  held_holds = all_append (hold_of (request x) rh to) (hold_of (response x) sh (Some c)) (hold_holds (request x) rh to) (hold_holds (response x) sh (Some c))

  alike : IsAlike l then_ k
  alike = holds_alike held held_holds then_

  self : (x == x) ≡ true
  self = grind (arith, nat_tests)

  -- its request goes where its mark says
  named : to ≡ goal_in x mid
  named = sym (ap (λ v. if v then to else goal_in x h) self)

  unborn_x : old.exchanges.last < x
  unborn_x = further x old.exchanges.last number
    where
      further : (a n : ℕ) → a ≡ n + 1 → n < a
      further a n e = omega (arith, e)

  paused_k : (f : FlowId) → pauses f k ≡ pauses f h + paused_in f held
  paused_k f = holds_paused f held held_holds then_

  resumed_k : (f : FlowId) → resumes f k ≡ resumes f h + resumed_in f held
  resumed_k f = holds_resumed f held held_holds then_

  no_resumes : (f : FlowId) → resumed_in f held ≡ 0
  no_resumes f = resumed_append f (hold_of (request x) rh to) (hold_of (response x) sh (Some c)) (hold_holds (request x) rh to) ∙ both_none _ _ (hold_resumes f (request x) rh to) (hold_resumes f (response x) sh (Some c))

  disabled_k : (f : FlowId) → disabled (tape_setup l) f k ≡ disabled (tape_setup l) f then_
  disabled_k f = λ i. count_by (λ v. alike.above_as v i) (behind f 1 (alike.stages_as f i) (length (alike.stages_as f i) + 1 + 1) (alike.conn_as f i))

  found_at : (f : FlowId) → flow_in new f ≡ option_and_then (side_of f.back) (if x == f.exchange then Some (begun x spec config) else exchange_at old.exchanges f.exchange)
  found_at f = ap (option_and_then (side_of f.back)) (b.live f.exchange)

  -- ---- the flows that were there
  module _ (f : FlowId) (apart : (x == f.exchange) ≡ false) where
    found_other : flow_in new f ≡ flow_in old f
    found_other = found_at f ∙ ap (λ v. option_and_then (side_of f.back) (if v then Some (begun x spec config) else exchange_at old.exchanges f.exchange)) apart

    goes_other : goes_to new f ≡ goes_to old f
    goes_other = ap (option_and_then (goes_of f.back)) (b.live f.exchange ∙ ap (λ v. if v then Some (begun x spec config) else exchange_at old.exchanges f.exchange) apart)

    stages_other : stages_passed f mid ≡ stages_passed f h
    stages_other = ap (λ v. if v then (if f.back then stages_of (filters_of (side_filters true) spec.row config) else stages_of (filters_of (side_filters false) spec.row config)) else stages_passed f h) apart

    conn_other : conn_to f then_ ≡ conn_to f h
    conn_other = ap (λ v. if v then (if f.back then Some c else goal_in x mid) else conn_to f h) apart

    side_apart : (side : Bool) → same_flow (flow_id x side) f ≡ false
    side_apart side = ap (λ v. v && (if side then f.back else not f.back)) apart

    pauses_other : paused_in f held ≡ 0
    pauses_other = paused_append f (hold_of (request x) rh to) (hold_of (response x) sh (Some c)) (hold_holds (request x) rh to)
        ∙ both_none _ _ (hold_pauses f (request x) rh to ∙ ap (λ v. if v then option_map_or (λ e. one_if rh) to 0 else 0) (side_apart false))
        (hold_pauses f (response x) sh (Some c) ∙ ap (λ v. if v then one_if sh else 0) (side_apart true))

    lows_other : lows new.gates f ≡ lows old.gates f
    lows_other = lows_same f old.gates new.gates (sound.watched f ∙ ((λ i. option_map_or (watches_of (goes_other i)) (found_other i) []) ∙ sym (counts.sound.watched f))) lows_go.lows

    disabled_other : disabled (tape_setup l) f then_ ≡ disabled (tape_setup l) f h
    disabled_other = sums _ _ _ (disabled_goes l f starting mid refl refl conn_other) (disabled_goes l f passing h stages_other refl refl)
      where
        sums : (a m n : ℕ) → a + 0 ≡ m + 0 → m + 0 ≡ n + 0 → a ≡ n
        sums a m n e i = omega (arith, e, i)

    other_counted : (flow : Flow) → flow_in old f ≡ Some flow → IsCounted l new f k flow
    other_counted flow found =
        let was : IsCounted l old f h flow = subst (λ (o : Option Flow). IfSome o (IsCounted l old f h)) found (counts.each f) in
        let is_was : FlowIs l f h flow = subst (λ (o : Option Flow). IfSome o (FlowIs l f h)) found (stands.flows_are f) in
        let is_mid : FlowIs l f mid flow = flow_still f h mid (record { places = λ p. refl; stages = stages_other; came = refl; went = refl }) flow is_was in
        let is_then : FlowIs l f then_ flow = flow_still f h then_ (record { places = λ p. refl; stages = stages_other; came = refl; went = refl }) flow is_was in
        let over_mid : AreOver l f mid flow = over_then l f passing h flow flow is_was is_mid (still_goes flow flow refl) was.over in
        let over : AreOver l f then_ flow = over_then l f starting mid flow flow is_mid is_then (still_goes flow flow refl) over_mid in
        record {
          paused = balance _ _ _ _ _ _ _ _ _ _ (paused_k f) (resumed_k f) pauses_other (no_resumes f) was.paused (disabled_k f ∙ disabled_other) lows_other;
          over = λ p y at source. over p y at source ∙ sym (alike.above_as (buffer_of f p (kind_of y.kind)));
          goes = goes_other ∙ (was.goes ∙ (sym conn_other ∙ sym (alike.conn_as f)));
        }
      where
        balance : (p p0 r r0 q m d0 d1 w0 w1 : ℕ) → p ≡ p0 + q → r ≡ r0 + m → q ≡ 0 → m ≡ 0 → p0 ≡ r0 + (d0 + w0) → d1 ≡ d0 → w1 ≡ w0 → p ≡ r + (d1 + w1)
        balance p p0 r r0 q m d0 d1 w0 w1 e1 e2 e3 e4 e5 e6 e7 = omega (arith, e1, e2, e3, e4, e5, e6, e7)

  -- ---- the two that began
  write_then : (e : ℕ) → above (tape_setup l) (buffer.Write e) then_ ≡ above (tape_setup l) (buffer.Write e) h
  write_then e = flag_now (tape_setup l) (buffer.Write e) mid ∙ flag_now (tape_setup l) (buffer.Write e) h

  above_then : (e : ℕ) → IsSome (write_at e old) → is_above e old ≡ above (tape_setup l) (buffer.Write e) then_
  above_then e known = sym (known_holds e old known) ∙ (counts.marks e ∙ (counts.over e ∙ sym (write_then e)))

  module _ (side : Bool) where
    abbrev f : FlowId
    f = flow_id x side

    none_there : flow_in old f ≡ None
    none_there = at (flow_in old f) refl
      where
        at : (o : Option Flow) → flow_in old f ≡ o → o ≡ None
        at None e = refl
        at (Some v) e = absurd (cc (ap is_some e, (stands.unborn f unborn_x).there))

    no_octets : (p : ℕ) → place (tape_setup l) f p then_ ≡ []
    no_octets p = same_place l f p then_ ∙ stands.empty f p (ap is_some none_there)

    stage_low : (p : ℕ) → above (tape_setup l) (buffer.Stage f p) then_ ≡ false
    stage_low p = ap (λ (xs : List ℕ). above_after (limit (tape_setup l) (buffer.Stage f p) then_) (above (tape_setup l) (buffer.Stage f p) mid) (length xs)) (no_octets p)
        ∙ never_above (limit (tape_setup l) (buffer.Stage f p) then_) (above (tape_setup l) (buffer.Stage f p) mid)

    send_low : above (tape_setup l) (buffer.Send f) then_ ≡ false
    send_low = ap (λ (xs : List ℕ). above_after l.send_buffer (above (tape_setup l) (buffer.Send f) mid) (length xs)) (no_octets (last_place (tape_setup l) f then_))
        ∙ never_above l.send_buffer (above (tape_setup l) (buffer.Send f) mid)

    conn_here : conn_to f then_ ≡ (if side then Some c else goal_in x mid)
    conn_here = ap (λ v. if v then (if side then Some c else goal_in x mid) else conn_to f h) self

    disabled_here : disabled (tape_setup l) f then_ ≡ option_map_or (λ e. one_if (above (tape_setup l) (buffer.Write e) then_)) (if side then Some c else goal_in x mid) 0
    disabled_here = own_none (λ v. above (tape_setup l) v then_) f stage_low send_low 1 (stages_passed f then_) (length (stages_passed f then_) + 1 + 1) (conn_to f then_)
        ∙ ap (λ (o : Option ℕ). option_map_or (λ e. one_if (above (tape_setup l) (buffer.Write e) then_)) o 0) conn_here

    least : (m n : ℕ) → m ≤ n → n ≡ 0 → m ≡ 0
    least m n le e = omega (arith, le, e)

    lows_here : lows new.gates f ≡ 0
    lows_here = sum_none (λ v. times f (pending_on new.gates v)) (λ v. ap (λ (fs : List FlowId). times f fs) (lows_go.lows v) ∙ least _ _ (counts.sound.gates.pending f v) (unborn_watches old counts.sound f unborn_x v)) (watched_by new.gates f)

  first_only : (m n r : ℕ) → m ≡ r → n ≡ 0 → m + n ≡ r
  first_only m n r e i = omega (arith, e, i)

  second_only : (m n r : ℕ) → m ≡ 0 → n ≡ r → m + n ≡ r
  second_only m n r e i = omega (arith, e, i)

  held_by : (o : Option ℕ) → o ≡ to → IfSome o (λ e. IsSome (write_at e old)) → rh ≡ option_map_or (λ e. is_above e old) o false → option_map_or (λ e. one_if rh) o 0 ≡ option_map_or (λ e. one_if (above (tape_setup l) (buffer.Write e) then_)) o 0
  held_by None is known e = refl
  held_by (Some n) is known e = ap one_if (e ∙ above_then n known)

  pauses_here : (side : Bool) → paused_in (flow_id x side) held ≡ option_map_or (λ e. one_if (above (tape_setup l) (buffer.Write e) then_)) (if side then Some c else goal_in x mid) 0
  pauses_here false = paused_append (flow_id x false) (hold_of (request x) rh to) (hold_of (response x) sh (Some c)) (hold_holds (request x) rh to)
      ∙ first_only _ _ _
      (hold_pauses (flow_id x false) (request x) rh to ∙ (ap (λ v. if v && true then option_map_or (λ e. one_if rh) to 0 else 0) self
      ∙ (held_by to refl to_known rh_is ∙ ap (λ (o : Option ℕ). option_map_or (λ e. one_if (above (tape_setup l) (buffer.Write e) then_)) o 0) named)))
      (hold_pauses (flow_id x false) (response x) sh (Some c) ∙ ap (λ v. if v && false then one_if sh else 0) self)
  pauses_here true = paused_append (flow_id x true) (hold_of (request x) rh to) (hold_of (response x) sh (Some c)) (hold_holds (request x) rh to)
      ∙ second_only _ _ _
      (hold_pauses (flow_id x true) (request x) rh to ∙ ap (λ v. if v && false then option_map_or (λ e. one_if rh) to 0 else 0) self)
      (hold_pauses (flow_id x true) (response x) sh (Some c) ∙ (ap (λ v. if v && true then one_if sh else 0) self ∙ ap one_if (sh_is ∙ above_then c from_known)))

  begun_here : (side : Bool) → flow_in new (flow_id x side) ≡ Some (begun_flow (flow_id x side) (filters_of (side_filters side) spec.row config) spec (if side then config.limits.overflow_multiple else multiple_of spec config))
  begun_here false = found_at (flow_id x false) ∙ ap (λ v. option_and_then (side_of false) (if v then Some (begun x spec config) else exchange_at old.exchanges x)) self
  begun_here true = found_at (flow_id x true) ∙ (ap (λ v. option_and_then (side_of true) (if v then Some (begun x spec config) else exchange_at old.exchanges x)) self ∙ response_new x spec config wire)

  goes_here : (side : Bool) → goes_to new (flow_id x side) ≡ (if side then Some c else goal_in x mid)
  goes_here false = request_goes ∙ named
  goes_here true = response_goes

  balance_here : (p p0 r r0 q m d1 w n : ℕ) → p ≡ p0 + q → r ≡ r0 + m → p0 ≡ 0 → r0 ≡ 0 → m ≡ 0 → q ≡ n → d1 ≡ n → w ≡ 0 → p ≡ r + (d1 + w)
  balance_here p p0 r r0 q m d1 w n e1 e2 e3 e4 e5 e6 e7 e8 = omega (arith, e1, e2, e3, e4, e5, e6, e7, e8)

  low_own : (side : Bool) (p : ℕ) (kd : Kind) → above (tape_setup l) (buffer_of (flow_id x side) p kd) k ≡ false
  low_own side p HoldKind = alike.above_as (buffer.Stage (flow_id x side) p) ∙ stage_low side p
  low_own side p MeterKind = alike.above_as (buffer.Stage (flow_id x side) p) ∙ stage_low side p
  low_own side p SendKind = alike.above_as (buffer.Send (flow_id x side)) ∙ send_low side

  fresh_places : (side : Bool) (p : ℕ) (y : Place) → place_at (begun_flow (flow_id x side) (filters_of (side_filters side) spec.row config) spec (if side then config.limits.overflow_multiple else multiple_of spec config)).chain.places p ≡ Some y → y.above ≡ false
  fresh_places side zero y found = cc
  fresh_places side (suc i) y found = fresh_above (filters_of (side_filters side) spec.row config) (empty_place kind.Send spec.send) i y refl found

  mine_counted : (side : Bool) (flow : Flow) → flow_in new (flow_id x side) ≡ Some flow → IsCounted l new (flow_id x side) k flow
  mine_counted side flow found =
      let f = flow_id x side in
      let none = counts.unpaused f unborn_x in
      let is = same_Some (begun_flow f (filters_of (side_filters side) spec.row config) spec (if side then config.limits.overflow_multiple else multiple_of spec config)) flow (sym (begun_here side) ∙ found) in
      record {
        paused = balance_here _ _ _ _ _ _ _ _ _ (paused_k f) (resumed_k f) none.0 none.1 (no_resumes f) (pauses_here side) (disabled_k f ∙ disabled_here side) (lows_here side);
        over = λ p y at source. fresh_places side p y (ap (λ (v : Flow). place_at v.chain.places p) is ∙ at) ∙ sym (low_own side p (kind_of y.kind));
        goes = goes_here side ∙ (sym (conn_here side) ∙ sym (alike.conn_as f));
      }

  each : (f : FlowId) (o : Option Flow) → flow_in new f ≡ o → IfSome o (IsCounted l new f k)
  each f None found = tt
  each f (Some flow) found = by_case (x == f.exchange)
      (λ e. subst (λ (y : ℕ). flow_in new (record { exchange = y; back = f.back }) ≡ Some flow → IsCounted l new (record { exchange = y; back = f.back }) k flow) (is_number x f.exchange e) (λ found. mine_counted f.back flow found) found)
      (λ e. other_counted f e flow (sym (found_other f e) ∙ found))

  later : (f : FlowId) → new.exchanges.last < f.exchange → (old.exchanges.last < f.exchange) × ((x == f.exchange) ≡ false)
  later f lt = (further x f.exchange old.exchanges.last new.exchanges.last b.last number lt, apart x f.exchange new.exchanges.last b.last lt)
    where
      further : (a e n m : ℕ) → m ≡ a → a ≡ n + 1 → m < e → n < e
      further a e n m i j lt = omega (arith, i, j, lt)

      apart : (a e m : ℕ) → m ≡ a → m < e → (a == e) ≡ false
      apart a e m i lt = grind (arith, nat_tests)

  pub begins_counts : Stands l conns new links' then_ → Counts l t u conns new k
  begins_counts stood = record {
    sound = sound;
    each = λ f. each f (flow_in new f) refl;
    unpaused = λ f lt.
        let more = later f lt in
        let was = counts.unpaused f more.0 in
        (paused_k f ∙ both_none _ _ was.0 (pauses_other f more.1), resumed_k f ∙ both_none _ _ was.1 (no_resumes f));
    living = λ y. ap (λ (xs : List ℕ). has xs y) alike.live_as ∙ (has_more (live h) x y ∙ (ap (λ v. v || (x == y)) (counts.living y) ∙ (swapped (is_live_in old y) (x == y) ∙ sym (lives y))));
    over = λ e. counts.over e ∙ (sym (write_then e) ∙ sym (alike.above_as (buffer.Write e)));
    marks = λ e. ap (λ (o : Option Write). option_map_or (λ w. w.above) o false) (writes.writes e) ∙ counts.marks e;
    known = λ e there. subst IsSome (sym (writes.writes e)) (counts.known e there);
    told = λ v. at v (counts.told v);
    turns = holds_turns l held held_holds then_ (tt, (tt, counts.turns));
  }
    where
      at : (v : BufferId) → (pending_on old.gates v ≡ []) ⊎ MayLag t u v → (pending_on new.gates v ≡ []) ⊎ MayLag t u v
      at v (inl none) = inl (lows_go.lows v ∙ none)
      at v (inr may) = inr may

      swapped : (a e : Bool) → (a || e) ≡ (e || a)
      swapped true true = refl
      swapped true false = refl
      swapped false true = refl
      swapped false false = refl

-- ---- as its notes say
pub started_holds : (s : Started) (client : ℕ) (to : Option ℕ) → AreHolds (held_of s client to)
started_holds s client to = all_append (hold_of (request s.exchange) s.request_held to) (hold_of (response s.exchange) s.response_held (Some client)) (hold_holds (request s.exchange) s.request_held to) (hold_holds (response s.exchange) s.response_held (Some client))

pub numbered : (to : Option ℕ) → unwrap_or to 0 ≡ conn_number to
numbered None = refl
numbered (Some c) = refl

-- a flow that isn't held back is paused by none, and one that is, once
pub unheld : (f : FlowId) (b : Bool) (to : Option ℕ) → b ≡ false → hold_of f b to ≡ []
unheld f true to e = cc
unheld f false None e = refl
unheld f false (Some c) e = refl

pub held_is : (f : FlowId) (b : Bool) (to : Option ℕ) (c : ℕ) → b ≡ true → to ≡ Some c → note.Pause f (buffer.Write c) ∷ [] ≡ hold_of f b to
held_is f b to c up is = λ i. hold_of f (sym up i) (sym is i)
