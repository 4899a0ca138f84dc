-- A flow, or its exchange, that was found in the map, lent, and written.
use Rattle.exchange_core.proofs.Finding.{flow_found, target_found}
use Rattle.exchange_core.proofs.Metered.{IsMarked}
use Rattle.exchange_core.proofs.Outcomes.{at_found, from_found}
use Rattle.exchange_core.proofs.Steady.{IsSteady, steady_same}
use Rattle.exchange_core.proofs.Writing.{change_kept, change_none, changed_in, changes_flow, flow_after, found_sound, not_marked, sound_changed, unchanged, with_changed}
use Rattle.exchange_core.specs.Changes.{ChangesFlow}
use Rattle.exchange_core.specs.Exchange.{flow_changed, flow_in, goes_to, is_metered, seen_at, with_flow}
use Rattle.exchange_core.specs.Exchanges.{flow_at, target_of}
use Rattle.exchange_core.specs.Flow.{Flow, IsSound as IsSoundFlow, meters_hold}
use Rattle.number_set.specs.NumberSet.{NumberSet}
use Rattle.exchange_core.specs.View.{IsKept, exchanges_of}
use Rattle.exchange_core.specs.declared.exchange.Exchange.{Exchange}
use Rattle.exchange_core.specs.declared.exchanges.Exchanges.TheInside.{Inside}
use Rattle.filter_chain.specs.Chain.{EndsInSend, kinds}
use Rattle.flow_rules.specs.declared.ids.FlowId.{FlowId}
use Rattle.std.proofs.Common.{refl, subst, sym, ◌∙◌}
use Rattle.paged_map.specs.PagedMap.{PagedMap, WritesThrough}
use Rattle.std.specs.BTreeMap.{is_at}
use Rattle.std.specs.Map.{lookup}
use Rattle.std.specs.Ordering.{nat_cmp}
use Rattle.std.specs.Prelude.{IfSome, Option, Some, option_map, ℕ, ◌≡◌}

-- ---- what is said of the flow that is seen
module _ (P : Flow → Type 0) (c : Inside) (f : FlowId) {found : Exchange} {flow : Flow} (is : Some found ≡ lookup (is_at (nat_cmp f.exchange)) c.live.entries)
    (there : Some flow ≡ flow_in f.back (seen_at c.ticked found)) where
  pub seen_says : IfSome (flow_at (exchanges_of c) f) P → P flow
  seen_says = at_found P _ flow (flow_found c f found (Some flow) is there)

  pub says_seen : P flow → IfSome (flow_at (exchanges_of c) f) P
  says_seen = from_found P _ flow (flow_found c f found (Some flow) is there)

-- what is seen of the flow, and where it goes, is what was found
module _ (c : Inside) (f : FlowId) {found : Exchange} (is : Some found ≡ lookup (is_at (nat_cmp f.exchange)) c.live.entries) where
  pub seen_is : flow_at (exchanges_of c) f ≡ flow_in f.back (seen_at c.ticked found)
  seen_is = flow_found c f found (flow_in f.back (seen_at c.ticked found)) is refl

  pub aimed_is : target_of (exchanges_of c) f ≡ goes_to f.back found
  aimed_is = target_found c f found (goes_to f.back found) is refl

  pub map_seen : {A : Type 0} (g : Option ℕ → Flow → A) → option_map (g (goes_to f.back found)) (flow_in f.back (seen_at c.ticked found)) ≡ option_map (g (target_of (exchanges_of c) f)) (flow_at (exchanges_of c) f)
  map_seen g = λ i. option_map (g (sym aimed_is i)) (sym seen_is i)

  pub says_aimed : (P : Option ℕ → Flow → Type 0) → IfSome (flow_in f.back (seen_at c.ticked found)) (P (goes_to f.back found)) → IfSome (flow_at (exchanges_of c) f) (P (target_of (exchanges_of c) f))
  says_aimed P h = rw seen_is (subst (λ t. IfSome (flow_in f.back (seen_at c.ticked found)) (P t)) (sym aimed_is) h)

-- ---- a flow
pub record Lent (c : Inside) (lender : Exchange → PagedMap Exchange) (f : FlowId) (found : Exchange) (flow written : Flow) : Type 0 where
  pub kept : IsKept c
  pub is : Some found ≡ lookup (is_at (nat_cmp f.exchange)) c.live.entries
  pub there : Some flow ≡ flow_in f.back (seen_at c.ticked found)
  pub sound : IsSoundFlow written
  pub through : WritesThrough f.exchange c.live (with_flow f.back written (seen_at c.ticked found)) (lender (with_flow f.back written (seen_at c.ticked found)))

abbrev pub left : Inside → (Exchange → PagedMap Exchange) → FlowId → Exchange → Flow → Inside
left c lender f found written = record c { live = lender (with_flow f.back written (seen_at c.ticked found)) }

module _ {c : Inside} {lender : Exchange → PagedMap Exchange} {f : FlowId} {found : Exchange} {flow written : Flow} (l : Lent c lender f found flow written) where
  pub lent_order : EndsInSend (kinds flow.chain.places)
  lent_order = (found_sound c f found flow l.kept l.is l.there).sound.chain.order

  pub lent_done : (change : Flow → Flow) → IsSteady change → written ≡ change flow → meters_hold (change flow) ≡ meters_hold flow →
      ChangesFlow f change (exchanges_of c) (exchanges_of (left c lender f found written)) × IsKept (left c lender f found written)
  lent_done change steady is same =
      let w = with_flow f.back written (seen_at c.ticked found) in
      let e : w ≡ flow_changed change f.back (seen_at c.ticked found) = with_changed f.back change (seen_at c.ticked found) flow written (sym l.there) is in
      let ok : IfSome (flow_in f.back (seen_at c.ticked found)) (λ g. IsSoundFlow (change g)) = rw (← l.there) (subst IsSoundFlow is l.sound) in
      let calm : IfSome (flow_in f.back (seen_at c.ticked found)) (λ g. meters_hold (change g) ≡ meters_hold g) = rw (← l.there) same in (
        changes_flow c (lender w) c.metered f change found w l.kept steady l.is e ok l.through,
        change_kept c (lender w) c.metered f change found w l.kept steady l.is e ok l.through (not_marked c (lender w) c.metered f change found w l.kept steady l.is e ok l.through calm),
      )

  -- the flow that is seen then
  pub lent_seen : (change : Flow → Flow) → IsSteady change → written ≡ change flow → meters_hold (change flow) ≡ meters_hold flow → flow_at (exchanges_of (left c lender f found written)) f ≡ Some written
  lent_seen change steady is same =
      cc (flow_after f change (exchanges_of c) (exchanges_of (left c lender f found written)) (lent_done change steady is same).0, flow_found c f found (Some flow) l.is l.there, is)

  pub lent_refused : written ≡ flow → (exchanges_of (left c lender f found written) ≡ exchanges_of c) × IsKept (left c lender f found written)
  lent_refused is =
      let w = with_flow f.back written (seen_at c.ticked found) in
      let e : w ≡ flow_changed (λ g. g) f.back (seen_at c.ticked found) = with_changed f.back (λ g. g) (seen_at c.ticked found) flow written (sym l.there) is in
      let ok : IfSome (flow_in f.back (seen_at c.ticked found)) IsSoundFlow = rw (← l.there) (subst IsSoundFlow is l.sound) in (
        change_none c (lender w) c.metered f (λ g. g) found w l.kept steady_same l.is e ok l.through (unchanged f.back (seen_at c.ticked found)),
        (lent_done (λ g. g) steady_same is refl).1,
      )

-- ---- an exchange, whose Meters may hold octets now or not
pub record LentWhole (c : Inside) (lender : Exchange → PagedMap Exchange) (marked : NumberSet) (f : FlowId) (found written : Exchange) : Type 0 where
  pub kept : IsKept c
  pub is : Some found ≡ lookup (is_at (nat_cmp f.exchange)) c.live.entries
  pub sound : IfSome (flow_in f.back written) IsSoundFlow
  pub through : WritesThrough f.exchange c.live written (lender written)
  pub marks : IsMarked f.exchange (is_metered found) (is_metered written) c.metered marked

abbrev pub left_whole : Inside → (Exchange → PagedMap Exchange) → NumberSet → Exchange → Inside
left_whole c lender marked written = record c { live = lender written; metered = marked }

module _ {c : Inside} {lender : Exchange → PagedMap Exchange} {marked : NumberSet} {f : FlowId} {found written : Exchange} (l : LentWhole c lender marked f found written) where
  pub whole_done : (change : Flow → Flow) → IsSteady change → written ≡ flow_changed change f.back (seen_at c.ticked found) →
      ChangesFlow f change (exchanges_of c) (exchanges_of (left_whole c lender marked written)) × IsKept (left_whole c lender marked written)
  whole_done change steady is =
      let ok = sound_changed f.back change (seen_at c.ticked found) written is l.sound in (
        changes_flow c (lender written) marked f change found written l.kept steady l.is is ok l.through,
        change_kept c (lender written) marked f change found written l.kept steady l.is is ok l.through l.marks,
      )

  pub whole_refused : written ≡ seen_at c.ticked found → (exchanges_of (left_whole c lender marked written) ≡ exchanges_of c) × IsKept (left_whole c lender marked written)
  whole_refused is =
      let e : written ≡ flow_changed (λ (g : Flow). g) f.back (seen_at c.ticked found) = is ∙ sym (unchanged f.back (seen_at c.ticked found)) in
      let ok = sound_changed f.back (λ (g : Flow). g) (seen_at c.ticked found) written e l.sound in (
        change_none c (lender written) marked f (λ (g : Flow). g) found written l.kept steady_same l.is e ok l.through (unchanged f.back (seen_at c.ticked found)),
        (whole_done (λ g. g) steady_same e).1,
      )

  -- the flow that is seen then is the one that was written
  pub whole_seen : (change : Flow → Flow) → IsSteady change → written ≡ flow_changed change f.back (seen_at c.ticked found) →
      flow_at (exchanges_of (left_whole c lender marked written)) f ≡ flow_in f.back written
  whole_seen change steady is =
      cc (flow_after f change (exchanges_of c) (exchanges_of (left_whole c lender marked written)) (whole_done change steady is).0, flow_found c f found (flow_in f.back (seen_at c.ticked found)) l.is refl, is, changed_in f.back change (seen_at c.ticked found))
