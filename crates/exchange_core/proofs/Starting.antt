-- What a start writes, and a tick.
use Rattle.exchange_core.proofs.Aging.{exchange_after}
use Rattle.exchange_core.proofs.Maps.{lookup_number, seen_of, stored_at, writes_number}
use Rattle.exchange_core.proofs.Metered.{count_inserted, count_values}
use Rattle.exchange_core.proofs.Moments.{AddUp, flow_later, known}
use Rattle.exchange_core.specs.Changes.{Starts, Ticks, number_for}
use Rattle.exchange_core.specs.Exchange.{IsFlowOf, IsSoundExchange, at_moment, begun, begun_flow, filters_of, flow_id, is_metered, seen_at, side_filters}
use Rattle.exchange_core.specs.Exchanges.{Exchanges, IsSound, exchange_at}
use Rattle.exchange_core.specs.Flow.{Flow, is_filled_meter, meters_hold}
use Rattle.exchange_core.specs.View.{IsKept, exchanges_of, stored}
use Rattle.exchange_core.specs.declared.exchange.Exchange.{Exchange}
use Rattle.exchange_core.specs.declared.exchanges.Exchanges.TheInside.{Inside}
use Rattle.exchange_core.specs.declared.start.StartSpec.{StartSpec}
use Rattle.filter_chain.specs.Chain.{stages}
use Rattle.filter_chain.specs.Place.{empty_place}
use Rattle.filter_chain.specs.declared.stage.StageKind.TheVariants.{Send}
use Rattle.proxy_config.specs.declared.config.Config.{Config}
use Rattle.proxy_config.specs.declared.routes.Filter.{Filter}
use Rattle.proxy_config.specs.declared.routes.Filter.TheVariants as filter
use Rattle.std.proofs.Common.{ap, arith, inl, inr, refl, subst, sym, ◌∙◌}
use Rattle.std.proofs.lemmas.Bool.{cases_Bool, eqb-true, ne_eqb}
use Rattle.std.specs.BTreeMap.{insert_entry, is_at}
use Rattle.std.specs.List.{AllByRecursion, list_any}
use Rattle.std.specs.List.Sorted.{IsStrictlySortedBy}
use Rattle.std.specs.Map.{keys_of, lookup}
use Rattle.std.specs.Option.{option_map_or}
use Rattle.std.specs.Ordering.{nat_cmp}
use Rattle.std.specs.VecDeque.{deque_capacity, deque_len}
use Rattle.std.specs.Prelude.{Bool, IfSome, IsSome, List, None, Option, Some, [], cond, false, if◌then◌else◌, length, nat_eq, option_map, true, ℕ, ◌+◌, ◌++◌, ◌<◌, ◌||◌, ◌∷◌, ◌≡◌, ◌≤◌}

-- ---- a new exchange is seen as it began
abbrev begun_back : ℕ → StartSpec → Config → Flow
begun_back x spec config = begun_flow (flow_id x true) (filters_of (side_filters true) spec.row config) spec config.limits.overflow_multiple

begun_seen : (x now : ℕ) (spec : StartSpec) (config : Config) → now ≤ spec.now → seen_at now (begun x spec config) ≡ begun x spec config
begun_seen x now spec config by = λ i. record (begun x spec config) {
  request = known now (begun x spec config).request by i;
  response = by_side spec.plain i;
}
  where
    by_side : (plain : Bool) → option_map (at_moment now) (if plain then None else Some (begun_back x spec config)) ≡ (if plain then None else Some (begun_back x spec config))
    by_side true = refl
    by_side false = cc (known now (begun_back x spec config) by)

module _ (x : ℕ) (begins : Exchange) (old : Exchanges) (live : List (ℕ × Exchange)) (now : ℕ) (rises : old.last < x) (later : old.time ≤ now)
    (writes : (y : ℕ) → exchange_at (record old { live = live }) y ≡ cond (nat_eq x y) (Some begins) (exchange_at old y))
    (order : IsStrictlySortedBy nat_cmp (keys_of live)) where
  at_itself : (y : ℕ) → nat_eq x y ≡ true → exchange_at (record old { live = live }) y ≡ Some begins
  at_itself y same = cc (writes y)

  at_other : (y : ℕ) → nat_eq x y ≡ false → exchange_at (record old { live = live }) y ≡ exchange_at old y
  at_other y other = cc (writes y)

  each_after : (y : ℕ) (o : Option Exchange) → IfSome o (IsSoundExchange y old.time) → IfSome o (IsSoundExchange y now)
  each_after y None is = is
  each_after y (Some exchange) is = exchange_after y old.time now exchange later is

  dead_after : (doomed : List ℕ) → AllByRecursion (λ y. (y ≤ old.last) × (exchange_at old y ≡ None)) doomed →
      AllByRecursion (λ y. (y ≤ x) × (exchange_at (record old { live = live }) y ≡ None)) doomed
  dead_after [] all = tt
  dead_after (y ∷ ys) all = (
    (omega (arith, all.0.0), at_other y (ne_eqb x y (λ same. omega (arith, same, all.0.0))) ∙ all.0.1),
    dead_after ys all.1,
  )

  pub sound_begun : IsSoundExchange x now begins → IsSound old → IsSound (record old { live = live; last = x; time = now })
  unfolding exchange_at
  sound_begun ok sound = record {
    order = order;
    below = λ y some. elim (cases_Bool (nat_eq x y)) [
      | inl same ↦ (let e : x ≡ y = eqb-true x y same in omega arith)
      | inr other ↦ (let known : y ≤ old.last = sound.below y (subst IsSome (at_other y other) some) in omega arith)
    ];
    each = λ y. elim (cases_Bool (nat_eq x y)) [
      | inl same ↦ rw (at_itself y same) (subst (λ n. IsSoundExchange n now begins) (eqb-true x y same) ok)
      | inr other ↦ rw (at_other y other) (each_after y (exchange_at old y) (sound.each y))
    ];
    dead = dead_after old.doomed sound.dead;
    once = sound.once;
  }

-- ---- a start
pub number_rises : (x : ℕ) (spec : StartSpec) (exchanges : Exchanges) → x ≡ number_for spec exchanges → (spec.plain ≡ true → exchanges.last < spec.from_stream) → exchanges.last < x
number_rises x spec exchanges is plain = elim (cases_Bool spec.plain) [
  | inl told ↦ (let e : x ≡ spec.from_stream = cc in omega (arith, plain told))
  | inr wired ↦ (let e : x ≡ exchanges.last + 1 = cc in omega arith)
]

pub one_more : (b : Bool) (n m : ℕ) → n ≡ m + cond b 0 1 → n ≤ m + 1
one_more true n m is = omega arith
one_more false n m is = omega arith

-- its Meters hold nothing
stages_hold : (filters : List Filter) (send : ℕ) → list_any is_filled_meter (stages filters ++ empty_place Send send ∷ []) ≡ false
stages_hold [] send = refl
stages_hold (filter.Pass ∷ filters) send = stages_hold filters send
stages_hold (filter.Hold limit ∷ filters) send = stages_hold filters send
stages_hold (filter.Meter limit rate ∷ filters) send = stages_hold filters send

begun_metered : (x : ℕ) (spec : StartSpec) (config : Config) → is_metered (begun x spec config) ≡ false
begun_metered x spec config = λ i. stages_hold (filters_of (side_filters false) spec.row config) spec.send i || by_side spec.plain i
  where
    by_side : (plain : Bool) → option_map_or meters_hold (if plain then None
        else Some (begun_flow (flow_id x true) (filters_of (side_filters true) spec.row config) spec config.limits.overflow_multiple)) false ≡ false
    by_side true = refl
    by_side false = stages_hold (filters_of (side_filters true) spec.row config) spec.send

module _ (c a : Inside) (x : ℕ) (spec : StartSpec) (config : Config) (kept : IsKept c) (rises : c.last < x) (later : c.time ≤ spec.now)
    (updates : (y : ℕ) → lookup (is_at (nat_cmp y)) a.live.entries ≡ cond (is_at (nat_cmp x) y) (Some (begun x spec config)) (lookup (is_at (nat_cmp y)) c.live.entries)) where
  starts_at : (y : ℕ) → lookup (nat_eq y) a.live.entries ≡ cond (nat_eq x y) (Some (begun x spec config)) (lookup (nat_eq y) c.live.entries)
  starts_at = writes_number x (Some (begun x spec config)) c.live.entries a.live.entries updates

  stored_starts : (y : ℕ) → exchange_at (record (stored c) { live = a.live.entries }) y ≡ cond (nat_eq x y) (Some (begun x spec config)) (exchange_at (stored c) y)
  stored_starts y = cc (stored_at (record c { live = a.live }) y, starts_at y, stored_at c y)

  pub none_yet : exchange_at (stored c) x ≡ None
  none_yet = by_found (exchange_at (stored c) x) refl
    where
      by_found : (o : Option Exchange) → exchange_at (stored c) x ≡ o → o ≡ None
      by_found None is = refl
      by_found (Some e) is = let known : x ≤ c.last = kept.sound.below x (subst IsSome (sym is) refl) in absurd (omega arith)

  begins_seen : (y : ℕ) → a.ticked ≡ c.ticked → exchange_at (exchanges_of a) y ≡ cond (nat_eq x y) (Some (begun x spec config)) (exchange_at (exchanges_of c) y)
  begins_seen y same = seen_of a y ∙ (λ i. option_map (seen_at (same i)) (starts_at y i))
      ∙ elim (nat_eq x y) as (λ b. option_map (seen_at c.ticked) (cond b (Some (begun x spec config)) (lookup (nat_eq y) c.live.entries)) ≡ cond b (Some (begun x spec config)) (exchange_at (exchanges_of c) y)) [
        | true ↦ ap Some (begun_seen x c.ticked spec config (omega (arith, kept.told)))
        | false ↦ sym (seen_of c y)
      ]

  pub starts : a.ticked ≡ c.ticked → a.doomed.items ≡ c.doomed.items → a.last ≡ x → a.time ≡ spec.now → Starts x spec config (exchanges_of c) (exchanges_of a)
  starts same doomed last time = record { live = λ y. begins_seen y same; doomed = doomed; last = last; time = time }

  pub start_kept : IsSoundExchange x spec.now (begun x spec config) → IsStrictlySortedBy nat_cmp (keys_of a.live.entries) →
      a.live.entries ≡ insert_entry nat_cmp c.live.entries x (begun x spec config) → length a.live.entries ≤ length c.live.entries + 1 →
      a.ticked ≡ c.ticked → a.doomed.items ≡ c.doomed.items → a.last ≡ x → a.time ≡ spec.now → a.metered.items ≡ c.metered.items →
      length c.live.entries + 1 + deque_len a.doomed ≤ deque_capacity a.doomed → length c.live.entries + 1 ≤ a.metered.room → IsKept a
  start_kept ok order entries long same doomed last time marks room ready = record {
    sound = subst IsSound (λ i. record { live = a.live.entries; doomed = sym doomed i; last = sym last i; time = sym time i })
        (sound_begun x (begun x spec config) (stored c) a.live.entries spec.now rises later stored_starts order ok kept.sound);
    told = omega (arith, same, time, kept.told);
    room = omega (arith, long, room);
    metered = λ y. cc (kept.metered y, metered_at y, stored_at a y);
    counted =
        let none : cond (is_metered (begun x spec config)) 1 0 ≡ 0 = ap {B = ℕ} (λ b. cond b 1 0) (begun_metered x spec config) in
        omega (
          arith,
          none,
          ap length marks,
          kept.counted,
          ap (count_values is_metered) entries,
          count_inserted is_metered x (begun x spec config) c.live.entries
              (lookup_number c.live.entries x ∙ sym (stored_at c x) ∙ none_yet),
        );
    ready = omega (arith, long, ready);
  }
    where
      metered_at : (y : ℕ) → option_map_or is_metered (exchange_at (stored c) y) false ≡ option_map_or is_metered (lookup (nat_eq y) a.live.entries) false
      metered_at y = elim (cases_Bool (nat_eq x y)) [
        | inl itself ↦ ap (λ n. option_map_or is_metered (exchange_at (stored c) n) false) (sym (eqb-true x y itself)) ∙ ap (λ o. option_map_or is_metered o false) none_yet
            ∙ sym (begun_metered x spec config)
            ∙ (cc (starts_at y))
        | inr other ↦ ap (λ o. option_map_or is_metered o false) (stored_at c y ∙ sym (starts_at y ∙ ap (λ b. cond b (Some (begun x spec config)) (lookup (nat_eq y) c.live.entries)) other))
      ]

-- ---- a tick
response_ticked : AddUp → (x before now time : ℕ) (response : Option Flow) → before ≤ now → IfSome response (IsFlowOf x true time) →
    option_map (at_moment now) (option_map (at_moment before) response) ≡ option_map (at_moment now) response
response_ticked sums x before now time None later is = refl
response_ticked sums x before now time (Some flow) later is = cc (flow_later sums before now flow later is.sound.chain.clock)

exchange_ticked : AddUp → (x before now time : ℕ) (exchange : Exchange) → before ≤ now → IsSoundExchange x time exchange →
    seen_at now (seen_at before exchange) ≡ seen_at now exchange
exchange_ticked sums x before now time exchange later is = λ i. record exchange {
  request = flow_later sums before now exchange.request later is.request_is.sound.chain.clock i;
  response = response_ticked sums x before now time exchange.response later is.response_is i;
}

found_ticked : AddUp → (x before now time : ℕ) (found : Option Exchange) → before ≤ now → IfSome found (IsSoundExchange x time) →
    option_map (seen_at now) found ≡ option_map (seen_at now) (option_map (seen_at before) found)
found_ticked sums x before now time None later is = refl
found_ticked sums x before now time (Some exchange) later is = cc (exchange_ticked sums x before now time exchange later is)

module _ (sums : AddUp) (c : Inside) (now : ℕ) (kept : IsKept c) (later : c.time ≤ now) where
  sound_at : (x : ℕ) (o : Option Exchange) → IfSome o (IsSoundExchange x c.time) → IfSome o (IsSoundExchange x now)
  sound_at x None is = is
  sound_at x (Some exchange) is = exchange_after x c.time now exchange later is

  pub ticks : Ticks now (exchanges_of c) (exchanges_of (record c { ticked = now; time = now }))
  ticks = record {
    live = λ x. seen_of (record c { ticked = now; time = now }) x
        ∙ found_ticked sums x c.ticked now c.time (lookup (nat_eq x) c.live.entries) (omega (arith, kept.told)) (rw (← stored_at c x) (kept.sound.each x))
        ∙ ap (option_map (seen_at now)) (sym (seen_of c x));
    doomed = refl;
    last = refl;
    time = refl;
  }

  pub kept_ticked : IsKept (record c { ticked = now; time = now })
  unfolding exchange_at
  kept_ticked = record {
    sound = record {
      order = kept.sound.order;
      below = kept.sound.below;
      each = λ x. sound_at x _ (kept.sound.each x);
      dead = kept.sound.dead;
      once = kept.sound.once;
    };
    told = omega arith;
    room = kept.room;
    metered = kept.metered;
    counted = kept.counted;
    ready = kept.ready;
  }
