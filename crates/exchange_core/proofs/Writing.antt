-- What a call that names a flow writes, and what is then seen of the exchanges.
use Rattle.exchange_core.proofs.Aging.{exchange_later, flow_of_later, response_later}
use Rattle.exchange_core.proofs.Maps.{WritesAt, lookup_number, seen_of, seen_same, stored_at, writes_number}
use Rattle.exchange_core.proofs.Metered.{IsMarked, count_room, count_set, count_values, exchange_metered}
use Rattle.exchange_core.proofs.Moments.{known, told}
use Rattle.exchange_core.proofs.Steady.{IsSteady, steady_same}
use Rattle.exchange_core.specs.Changes.{ChangesFlow}
use Rattle.exchange_core.specs.Exchange.{IsFlowOf, IsSoundExchange, at_moment, flow_changed, flow_id, flow_in, is_metered, seen_at, with_flow}
use Rattle.exchange_core.specs.Exchanges.{Exchanges, IsSound, exchange_at, flow_at, is_send_above}
use Rattle.exchange_core.specs.Flow.{Flow, IsSound as IsSoundFlow, last_place, meters_hold}
use Rattle.number_set.specs.NumberSet.{NumberSet, has}
use Rattle.exchange_core.specs.View.{IsKept, exchanges_of, stored}
use Rattle.exchange_core.specs.declared.exchange.Exchange.{Exchange}
use Rattle.exchange_core.specs.declared.exchanges.Exchanges.TheInside.{Inside}
use Rattle.filter_chain.specs.Chain.{above_at}
use Rattle.flow_gate.specs.Board.{Board, is_open}
use Rattle.flow_rules.specs.declared.ids.FlowId.{FlowId}
use Rattle.wm_buffer.specs.Watermark.{crossing}
use Rattle.flow_gate.proofs.Places.{weaken}
use Rattle.std.proofs.Common.{ap, arith, inl, inr, refl, subst, sym, ◌∙◌}
use Rattle.std.proofs.lemmas.Bool.{cases_Bool, eq-eqb, eqb-true}
use Rattle.std.proofs.lemmas.Option.{none-some, same_Some}
use Rattle.paged_map.specs.PagedMap.{PagedMap, WritesThrough}
use Rattle.std.specs.BTreeMap.{is_at}
use Rattle.std.specs.List.Sorted.{IsStrictlySortedBy}
use Rattle.std.specs.Map.{keys_of, lookup}
use Rattle.std.specs.Option.{option_and_then, option_map_or}
use Rattle.std.specs.Ordering.{nat_cmp}
use Rattle.std.specs.Prelude.{Bool, IfSome, IsSome, List, None, Option, Some, cond, false, length, nat_eq, option_map, true, ℕ, ◌+◌, ◌<◌, ◌≡◌, ◌≤◌}

-- ---- one exchange
response_known : (now : ℕ) (response : Option Flow) → option_map (at_moment now) (option_map (at_moment now) response) ≡ option_map (at_moment now) response
response_known now None = refl
response_known now (Some flow) = cc (known now (at_moment now flow) (told now flow))

-- a flow that is lent and comes back changed
pub with_changed : (back : Bool) (change : Flow → Flow) (exchange : Exchange) (flow written : Flow) → flow_in back exchange ≡ Some flow → written ≡ change flow →
    with_flow back written exchange ≡ flow_changed change back exchange
with_changed false change exchange flow written there is =
    cc (same_Some exchange.request flow there)
with_changed true change exchange flow written there is = cc (by_response exchange.response there)
  where
    by_response : (response : Option Flow) → response ≡ Some flow → option_map (λ old. written) response ≡ option_map change response
    by_response None none = refl
    by_response (Some response) some = cc (same_Some response flow some)

-- what is changed of what was seen is seen so
steady_known : (now : ℕ) (change : Flow → Flow) (flow : Flow) → IsSteady change → at_moment now (change (at_moment now flow)) ≡ change (at_moment now flow)
steady_known now change flow steady = known now (change (at_moment now flow)) (omega (arith, steady.time (at_moment now flow), told now flow))

pub change_settled : (now : ℕ) (back : Bool) (change : Flow → Flow) (exchange : Exchange) → IsSteady change →
    seen_at now (flow_changed change back (seen_at now exchange)) ≡ flow_changed change back (seen_at now exchange)
change_settled now false change exchange steady = λ i. record exchange {
  request = steady_known now change exchange.request steady i;
  response = response_known now exchange.response i;
}
change_settled now true change exchange steady = λ i. record exchange {
  request = known now (at_moment now exchange.request) (told now exchange.request) i;
  response = by_response exchange.response i;
}
  where
    by_response : (response : Option Flow) → option_map (at_moment now) (option_map change (option_map (at_moment now) response)) ≡ option_map change (option_map (at_moment now) response)
    by_response None = refl
    by_response (Some response) = cc (steady_known now change response steady)

-- the changed flow is sound, and so is the exchange with it
changed_is : (x : ℕ) (side : Bool) (time : ℕ) (change : Flow → Flow) (flow : Flow) → IsFlowOf x side time flow → IsSteady change → IsSoundFlow (change flow) → IsFlowOf x side time (change flow)
changed_is x side time change flow was steady sound = record {
  sound = sound;
  own = steady.own flow ∙ was.own;
  told = omega (arith, steady.time flow, was.told);
}

pub change_sound : (x now time : ℕ) (back : Bool) (change : Flow → Flow) (exchange : Exchange) → IsSteady change →
    IfSome (flow_in back (seen_at now exchange)) (λ flow. IsSoundFlow (change flow)) → now ≤ time →
    IsSoundExchange x time exchange → IsSoundExchange x time (flow_changed change back (seen_at now exchange))
change_sound x now time false change exchange steady sound by was = record {
  request_is = changed_is x false time change (at_moment now exchange.request) (flow_of_later x false now time exchange.request by was.request_is) steady sound;
  response_is = response_later x now time exchange.response by was.response_is;
}
change_sound x now time true change exchange steady sound by was = record {
  request_is = flow_of_later x false now time exchange.request by was.request_is;
  response_is = by_response exchange.response sound was.response_is;
}
  where
    by_response : (response : Option Flow) → IfSome (option_map (at_moment now) response) (λ flow. IsSoundFlow (change flow)) → IfSome response (IsFlowOf x true time) →
        IfSome (option_map change (option_map (at_moment now) response)) (IsFlowOf x true time)
    by_response None sounds is = tt
    by_response (Some response) sounds is = changed_is x true time change (at_moment now response) (flow_of_later x true now time response by is) steady sounds

-- ---- all exchanges
module _ (x : ℕ) (found written : Exchange) (old : Exchanges) (live : List (ℕ × Exchange))
    (there : exchange_at old x ≡ Some found)
    (writes : (y : ℕ) → exchange_at (record old { live = live }) y ≡ cond (nat_eq x y) (Some written) (exchange_at old y))
    (order : IsStrictlySortedBy nat_cmp (keys_of live)) where
  apart : (y : ℕ) → exchange_at old y ≡ None → nat_eq x y ≡ false
  apart y none = elim (cases_Bool (nat_eq x y)) [
    | inl same ↦ absurd (none-some found (cc (eqb-true x y same)))
    | inr other ↦ other
  ]

  at_itself : (y : ℕ) → nat_eq x y ≡ true → exchange_at (record old { live = live }) y ≡ Some written
  at_itself y same = cc (writes y)

  at_other : (y : ℕ) → nat_eq x y ≡ false → exchange_at (record old { live = live }) y ≡ exchange_at old y
  at_other y other = cc (writes y)

  pub sound_written : IsSoundExchange x old.time written → IsSound old → IsSound (record old { live = live })
  sound_written ok sound = record {
    order = order;
    below = λ y some. elim (cases_Bool (nat_eq x y)) [
      | inl same ↦ (let known : x ≤ old.last = sound.below x (subst IsSome (sym there) refl) in let e : x ≡ y = eqb-true x y same in omega arith)
      | inr other ↦ sound.below y (subst IsSome (at_other y other) some)
    ];
    each = λ y. elim (cases_Bool (nat_eq x y)) [
      | inl same ↦ rw (at_itself y same) (subst (λ n. IsSoundExchange n old.time written) (eqb-true x y same) ok)
      | inr other ↦ rw (at_other y other) (sound.each y)
    ];
    dead = weaken old.doomed (λ y is. (is.0, at_other y (apart y is.1) ∙ is.1)) sound.dead;
    once = sound.once;
  }

-- ---- a flow that is lent, and written
pub unchanged : (back : Bool) (exchange : Exchange) → flow_changed (λ flow. flow) back exchange ≡ exchange
unchanged false exchange = refl
unchanged true exchange = ap (λ response. record exchange { response = response }) (by_response exchange.response)
  where
    by_response : (response : Option Flow) → option_map (λ flow. flow) response ≡ response
    by_response None = refl
    by_response (Some flow) = refl

-- what a change leaves of the Meters
calm : (back : Bool) (change : Flow → Flow) (exchange : Exchange) → IfSome (flow_in back exchange) (λ flow. meters_hold (change flow) ≡ meters_hold flow) →
    is_metered (flow_changed change back exchange) ≡ is_metered exchange
calm false change exchange same = cc
calm true change exchange same = cc (by_response exchange.response same)
  where
    by_response : (response : Option Flow) → IfSome response (λ flow. meters_hold (change flow) ≡ meters_hold flow) →
        option_map_or meters_hold (option_map change response) false ≡ option_map_or meters_hold response false
    by_response None is = refl
    by_response (Some flow) is = is

module _ (c : Inside) (lent : PagedMap Exchange) (marked : NumberSet) (f : FlowId) (change : Flow → Flow) (found written : Exchange) (kept : IsKept c) (steady : IsSteady change)
    (found_is : Some found ≡ lookup (is_at (nat_cmp f.exchange)) c.live.entries)
    (is : written ≡ flow_changed change f.back (seen_at c.ticked found))
    (sound : IfSome (flow_in f.back (seen_at c.ticked found)) (λ flow. IsSoundFlow (change flow)))
    (through : WritesThrough f.exchange c.live written lent) where
  abbrev after : Inside
  after = record c { live = lent; metered = marked }

  in_map : lookup (nat_eq f.exchange) c.live.entries ≡ Some found
  in_map = sym (lookup_number c.live.entries f.exchange) ∙ sym found_is

  writes : WritesAt f.exchange (Some written) c.live.entries lent.entries
  writes = writes_number f.exchange (Some written) c.live.entries lent.entries (through.3 (subst IsSome found_is refl)).0

  stored_writes : (y : ℕ) → exchange_at (record (stored c) { live = lent.entries }) y ≡ cond (nat_eq f.exchange y) (Some written) (exchange_at (stored c) y)
  stored_writes y = cc (stored_at (record c { live = lent }) y, writes y, stored_at c y)

  settled : seen_at c.ticked written ≡ flow_changed change f.back (seen_at c.ticked found)
  settled = cc (change_settled c.ticked f.back change found steady)

  written_sound : IsSoundExchange f.exchange c.time written
  written_sound = subst (IsSoundExchange f.exchange c.time) (sym is)
      (change_sound f.exchange c.ticked c.time f.back change found steady sound kept.told
      (subst (λ o. IfSome o (IsSoundExchange f.exchange c.time)) (stored_at c f.exchange ∙ in_map) (kept.sound.each f.exchange)))

  pub change_kept : IsMarked f.exchange (is_metered found) (is_metered written) c.metered marked → IsKept after
  change_kept marks = record {
    sound = sound_written f.exchange found written (stored c) lent.entries (stored_at c f.exchange ∙ in_map) stored_writes through.4 written_sound kept.sound;
    told = kept.told;
    room = omega (arith, through.2, kept.room);
    metered = λ y. marks.items y ∙ elim (nat_eq f.exchange y) as (λ b. cond b (is_metered written) (has c.metered.items y)
        ≡ option_map_or is_metered (cond b (Some written) (exchange_at (stored c) y)) false) [ true ↦ refl | false ↦ kept.metered y ]
        ∙ ap (λ o. option_map_or is_metered o false) (sym (stored_writes y));
    counted =
        let set : count_values is_metered lent.entries + cond (is_metered found) 1 0 ≡ count_values is_metered c.live.entries + cond (is_metered written) 1 0 =
        cc (count_set is_metered (is_at (nat_cmp f.exchange)) c.live.entries found written found_is) in
        omega (arith, set, marks.counted, kept.counted);
    ready = omega (arith, through.2, kept.ready, marks.room);
  }

  change_seen : (y : ℕ) → exchange_at (exchanges_of after) y
      ≡ cond (nat_eq f.exchange y) (option_map (flow_changed change f.back) (exchange_at (exchanges_of c) f.exchange)) (exchange_at (exchanges_of c) y)
  change_seen y = seen_of after y ∙ ap (option_map (seen_at c.ticked)) (writes y)
      ∙ elim (nat_eq f.exchange y) as (λ b. option_map (seen_at c.ticked) (cond b (Some written) (lookup (nat_eq y) c.live.entries))
      ≡ cond b (option_map (flow_changed change f.back) (exchange_at (exchanges_of c) f.exchange)) (exchange_at (exchanges_of c) y)) [
        | true ↦ ap Some settled ∙ (cc (seen_of c f.exchange, in_map))
        | false ↦ sym (seen_of c y)
      ]

  pub changes_flow : ChangesFlow f change (exchanges_of c) (exchanges_of after)
  changes_flow = record { flow = record { live = change_seen; last = refl; time = refl }; doomed = refl }

  -- what a refused call leaves
  pub change_none : flow_changed change f.back (seen_at c.ticked found) ≡ seen_at c.ticked found → exchanges_of after ≡ exchanges_of c
  change_none none = cc (seen_same (seen_at c.ticked) (is_at (nat_cmp f.exchange)) c.live.entries found written found_is (settled ∙ none))

  -- a change that leaves the Meters needs no mark
  pub not_marked : IfSome (flow_in f.back (seen_at c.ticked found)) (λ flow. meters_hold (change flow) ≡ meters_hold flow) →
      IsMarked f.exchange (is_metered found) (is_metered written) c.metered c.metered
  not_marked same =
      let keeps : is_metered written ≡ is_metered found =
      cc (calm f.back change (seen_at c.ticked found) same, exchange_metered c.ticked found) in
      let here : has c.metered.items f.exchange ≡ is_metered written =
      cc (kept.metered f.exchange, stored_at c f.exchange, in_map) in
      record {
        items = λ y. elim (cases_Bool (nat_eq f.exchange y)) [
          | inl itself ↦ ap (has c.metered.items) (sym (eqb-true f.exchange y itself)) ∙ here ∙ (cc)
          | inr other ↦ (cc)
        ];
        counted = cc;
        room = refl;
      }

-- ---- a flow that is lent
module _ (f : FlowId) (change : Flow → Flow) (old new : Exchanges) where
  after_change : exchange_at new f.exchange ≡ option_map (flow_changed change f.back) (exchange_at old f.exchange) →
      flow_at new f ≡ option_map change (flow_at old f)
  after_change is = cc (by_side f.back (exchange_at old f.exchange))
    where
      by_side : (back : Bool) (o : Option Exchange) → option_and_then (flow_in back) (option_map (flow_changed change back) o) ≡ option_map change (option_and_then (flow_in back) o)
      by_side back None = refl
      by_side false (Some exchange) = refl
      by_side true (Some exchange) = refl

  -- what the change of a flow does to the flow itself
  pub flow_after : ChangesFlow f change old new → flow_at new f ≡ option_map change (flow_at old f)
  flow_after changes = after_change
      (cc (changes.flow.live f.exchange, eq-eqb f.exchange f.exchange refl))

-- the exchange was touched, and hasn't the flow
pub touched_alone : (c : Inside) (lent : PagedMap Exchange) (f : FlowId) (found written : Exchange) → IsKept c → Some found ≡ lookup (is_at (nat_cmp f.exchange)) c.live.entries →
    None ≡ flow_in f.back (seen_at c.ticked found) → written ≡ seen_at c.ticked found → WritesThrough f.exchange c.live written lent →
    (exchanges_of (record c { live = lent }) ≡ exchanges_of c) × IsKept (record c { live = lent })
touched_alone c lent f found written kept found_is gone is through =
    let e : written ≡ flow_changed (λ (g : Flow). g) f.back (seen_at c.ticked found) = is ∙ sym (unchanged f.back (seen_at c.ticked found)) in
    let ok : IfSome (flow_in f.back (seen_at c.ticked found)) IsSoundFlow = rw (← gone) tt in
    let calm : IfSome (flow_in f.back (seen_at c.ticked found)) (λ (g : Flow). meters_hold g ≡ meters_hold g) =
    rw (← gone) tt in (
      change_none c lent c.metered f (λ (g : Flow). g) found written kept steady_same found_is e ok through (unchanged f.back (seen_at c.ticked found)),
      change_kept c lent c.metered f (λ (g : Flow). g) found written kept steady_same found_is e ok through
          (not_marked c lent c.metered f (λ (g : Flow). g) found written kept steady_same found_is e ok through calm),
    )

-- what was found is sound
pub found_sound : (c : Inside) (f : FlowId) (found : Exchange) (flow : Flow) → IsKept c → Some found ≡ lookup (is_at (nat_cmp f.exchange)) c.live.entries →
    Some flow ≡ flow_in f.back (seen_at c.ticked found) → IsFlowOf f.exchange f.back c.time flow
found_sound c f found flow kept found_is there = by_side f.back there (exchange_later f.exchange c.ticked c.time found kept.told
    (subst (λ o. IfSome o (IsSoundExchange f.exchange c.time)) (stored_at c f.exchange ∙ sym (lookup_number c.live.entries f.exchange) ∙ sym found_is) (kept.sound.each f.exchange)))
  where
    by_side : (back : Bool) → Some flow ≡ flow_in back (seen_at c.ticked found) → IsSoundExchange f.exchange c.time (seen_at c.ticked found) → IsFlowOf f.exchange back c.time flow
    by_side false is sound = subst (IsFlowOf f.exchange false c.time) (sym (same_Some flow (at_moment c.ticked found.request) is)) sound.request_is
    by_side true is sound = subst (λ o. IfSome o (IsFlowOf f.exchange true c.time)) (sym is) sound.response_is

-- ---- an exchange that makes a step
pub changed_in : (back : Bool) (change : Flow → Flow) (exchange : Exchange) → flow_in back (flow_changed change back exchange) ≡ option_map change (flow_in back exchange)
changed_in false change exchange = refl
changed_in true change exchange = refl

pub sound_changed : (back : Bool) (change : Flow → Flow) (exchange written : Exchange) → written ≡ flow_changed change back exchange → IfSome (flow_in back written) IsSoundFlow →
    IfSome (flow_in back exchange) (λ flow. IsSoundFlow (change flow))
sound_changed back change exchange written is sound = by_flow (flow_in back exchange) (subst (λ o. IfSome o IsSoundFlow) (cc (changed_in back change exchange)) sound)
  where
    by_flow : (o : Option Flow) → IfSome (option_map change o) IsSoundFlow → IfSome o (λ flow. IsSoundFlow (change flow))
    by_flow None ok = ok
    by_flow (Some flow) ok = ok

module _ (c : Inside) (f : FlowId) (found written : Exchange) (kept : IsKept c) (found_is : Some found ≡ lookup (is_at (nat_cmp f.exchange)) c.live.entries) where
  found_metered : has c.metered.items f.exchange ≡ is_metered found
  found_metered = cc (kept.metered f.exchange, stored_at c f.exchange, lookup_number c.live.entries f.exchange)

  -- there is room for a mark
  pub mark_room : has c.metered.items f.exchange ≡ false → length c.metered.items < c.metered.room
  mark_room none =
      let few = count_room is_metered (is_at (nat_cmp f.exchange)) c.live.entries found found_is (sym found_metered ∙ none) in
      omega (arith, few, kept.counted, kept.ready)

  pub is_marked : (marked : NumberSet) (now : Bool) → now ≡ is_metered written → ((y : ℕ) → has marked.items y ≡ cond (nat_eq f.exchange y) now (has c.metered.items y)) →
      length marked.items + cond (has c.metered.items f.exchange) 1 0 ≡ length c.metered.items + cond now 1 0 → marked.room ≡ c.metered.room →
      IsMarked f.exchange (is_metered found) (is_metered written) c.metered marked
  is_marked marked now is items len room = record {
    items = λ y. cc (items y);
    counted = cc found_metered;
    room = room;
  }

-- ---- what the send buffer crosses
send_above : (exchanges : Exchanges) (f : FlowId) (flow : Flow) → flow_at exchanges f ≡ Some flow → is_send_above exchanges f ≡ above_at flow.chain (last_place flow)
send_above exchanges f flow is = cc

pub send_crossed : (f : FlowId) (change : Flow → Flow) (old new : Exchanges) (flow written : Flow) → ChangesFlow f change old new → flow_at old f ≡ Some flow → written ≡ change flow →
    crossing (above_at flow.chain (last_place flow)) (above_at written.chain (last_place written)) ≡ crossing (is_send_above old f) (is_send_above new f)
send_crossed f change old new flow written changes there is =
    let after : flow_at new f ≡ Some written = cc (flow_after f change old new changes) in
    λ i. crossing (sym (send_above old f flow there) i) (sym (send_above new f written after) i)

pub open_there : (c : Inside) (f : FlowId) (board : Board) (found : Exchange) → IsKept c → Some found ≡ lookup (is_at (nat_cmp f.exchange)) c.live.entries → is_open board f ≡ true →
    IfSome (flow_in f.back found) (λ g. is_open board g.chain.flow ≡ true)
open_there c f board found kept found_is known = by_side f.back known
    (subst (λ o. IfSome o (IsSoundExchange f.exchange c.time)) (stored_at c f.exchange ∙ sym (lookup_number c.live.entries f.exchange) ∙ sym found_is) (kept.sound.each f.exchange))
  where
    by_response : (response : Option Flow) → is_open board (flow_id f.exchange true) ≡ true → IfSome response (IsFlowOf f.exchange true c.time) → IfSome response (λ g. is_open board g.chain.flow ≡ true)
    by_response None open_is is = is
    by_response (Some flow) open_is is = cc

    by_side : (back : Bool) → is_open board (flow_id f.exchange back) ≡ true → IsSoundExchange f.exchange c.time found → IfSome (flow_in back found) (λ g. is_open board g.chain.flow ≡ true)
    by_side false open_is sound = cc
    by_side true open_is sound = by_response found.response open_is sound.response_is
