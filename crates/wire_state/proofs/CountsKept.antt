-- What the counts are where nothing is noted: connections, flows and gates that are changed between two notes.
use Rattle.exchange_core.specs.Changes.{ChangesFlow}
use Rattle.exchange_core.specs.Effects.{finished, headed, list_framed}
use Rattle.exchange_core.specs.Exchange.{at_moment}
use Rattle.exchange_core.specs.Exchanges.{Exchanges, flow_at, is_live, target_of}
use Rattle.exchange_core.specs.Flow.{Flow}
use Rattle.filter_chain.specs.Chain.{place_at}
use Rattle.filter_chain.specs.Effects.{ticked, whole_steps}
use Rattle.filter_chain.specs.Place.{Place, is_source, kind_of, refilled}
use Rattle.filter_chain.specs.declared.stage.StageKind.{StageKind as PlaceKind}
use Rattle.flow_gate.proofs.SameIds.{same_flow_exact}
use Rattle.flow_gate.specs.Board.{Board, is_known, is_marked, lows, pending_on}
use Rattle.flow_gate.specs.Ids.{same_flow}
use Rattle.flow_rules.specs.declared.ids.BufferId.{BufferId}
use Rattle.flow_rules.specs.declared.ids.BufferId.TheVariants as buffer
use Rattle.flow_rules.specs.declared.ids.FlowId.{FlowId}
use Rattle.hpack_codec.specs.declared.fields.Field.{Field}
use Rattle.paged_map.specs.PagedMap.{PagedMap}
use Rattle.proxy_config.specs.declared.config.LimitKeys.{LimitKeys}
use Rattle.std.proofs.Common.{ap, inl, inr, refl, subst, sym, ◌∙◌}
use Rattle.std.proofs.lemmas.Option.{same_Some}
use Rattle.std.specs.Option.{option_map, option_map_or}
use Rattle.std.specs.Prelude.{Bool, IfSome, IsSome, List, None, Option, Some, [], false, if◌then◌else◌, is_some, map, nat_lt, slice_get, suc, true, zero, ℕ, ◌+◌, ◌-◌, ◌<◌, ◌∷◌, ◌≡◌, ◌⊎◌}
use Rattle.tape_laws.specs.Pauses.{resumes}
use Rattle.tape_laws.specs.Sources.{disabled}
use Rattle.tape_laws.specs.Watermark.{above}
use Rattle.wire_flows.proofs.Boards.{write_of, write_seen}
use Rattle.wire_flows.proofs.Cases.{by_case}
use Rattle.wire_flows.proofs.Found.{flow_after, live_after, target_after}
use Rattle.wire_flows.specs.Flows.{Flows, flow_in, goes_to, is_live_in, is_there, watches_of}
use Rattle.wire_flows.specs.Sound.{IsSound, buffer_of}
use Rattle.wire_flows.specs.Writes.{KeepsWrites, Write, write_at}
use Rattle.wire_state.proofs.Watching.{lows_same}
use Rattle.wire_state.specs.Counts.{AreOver, Counts, IsCounted, MayLag, holds_back, is_above_at}
use Rattle.wire_state.specs.Tapes.{tape_setup}
use Rattle.wire_state.specs.Ways.{WayHistory}
use Rattle.wire_state.specs.Worlds.{has_conn}
use Rattle.wire_state.specs.declared.conn.Conn.{Conn}

-- ---- connections
-- the same are above, and none came
pub record AboveStays (old new : PagedMap Conn) : Type 0 where
  pub above_stays : (c : ℕ) → is_above_at c new ≡ is_above_at c old
  pub came : (c : ℕ) → has_conn c new ≡ true → has_conn c old ≡ true

pub counts_conns : {l : LimitKeys} {t u : Option ℕ} → (old new : PagedMap Conn) (flows : Flows) (h : WayHistory) → AboveStays old new → Counts l t u old flows h → Counts l t u new flows h
counts_conns old new flows h a c = record {
  sound = c.sound;
  each = c.each;
  unpaused = c.unpaused;
  living = c.living;
  over = λ d. a.above_stays d ∙ c.over d;
  marks = λ d. c.marks d ∙ sym (a.above_stays d);
  known = λ d there. c.known d (a.came d there);
  told = c.told;
  turns = c.turns;
}

-- ---- flows
-- its sources are above where they were
pub record PlacesKeep (old new : Flow) : Type 0 where
  pub each : (p : ℕ) (y : Place) → place_at new.chain.places p ≡ Some y → (x : Place) × (place_at old.chain.places p ≡ Some x) × (y.kind ≡ x.kind) × (y.above ≡ x.above)

pub places_same : (old new : Flow) → new.chain.places ≡ old.chain.places → PlacesKeep old new
places_same old new e = record { each = λ p y found. (y, ap (λ (ps : List Place). place_at ps p) (sym e) ∙ found, refl, refl) }

pub headed_places : (fields : List Field) (last : Bool) (flow : Flow) → PlacesKeep flow (headed fields last flow)
headed_places fields true flow = places_same flow (headed fields true flow) refl
headed_places fields false flow = places_same flow (headed fields false flow) refl

pub finished_places : (trailers : Option (List Field)) (flow : Flow) → PlacesKeep flow (finished trailers flow)
finished_places trailers flow = places_same flow (finished trailers flow) refl

pub listed_places : (last : Bool) (flow : Flow) → PlacesKeep flow (list_framed last flow)
listed_places last flow = places_same flow (list_framed last flow) refl

refilled_at : (steps : ℕ) (xs : List Place) (i : ℕ) (y : Place) → slice_get (map (refilled steps) xs) i ≡ Some y → (x : Place) × (slice_get xs i ≡ Some x) × (y.kind ≡ x.kind) × (y.above ≡ x.above)
refilled_at steps [] i y e = cc
refilled_at steps (x ∷ xs) zero y e = let same = same_Some (refilled steps x) y e in (x, refl, ap (λ (v : Place). v.kind) (sym same), ap (λ (v : Place). v.above) (sym same))
refilled_at steps (x ∷ xs) (suc i) y e = refilled_at steps xs i y e

pub seen_places : (now : ℕ) (flow : Flow) → PlacesKeep flow (at_moment now flow)
seen_places now flow = at (nat_lt flow.chain.time now)
  where
    ticked_place : (p : ℕ) (y : Place) → place_at (ticked flow.chain now).places p ≡ Some y → (x : Place) × (place_at flow.chain.places p ≡ Some x) × (y.kind ≡ x.kind) × (y.above ≡ x.above)
    ticked_place zero y e = cc
    ticked_place (suc i) y e = refilled_at (whole_steps flow.chain.started now - whole_steps flow.chain.started flow.chain.time) flow.chain.places i y e

    at : (b : Bool) → PlacesKeep flow (record flow { chain = if b then ticked flow.chain now else flow.chain })
    at true = record { each = ticked_place }
    at false = record { each = λ p y found. (y, found, refl, refl) }

pub record FlowsKeep (old new : Flows) : Type 0 where
  pub last : new.exchanges.last ≡ old.exchanges.last
  pub each : (f : FlowId) (flow : Flow) → flow_in new f ≡ Some flow → (was : Flow) × (flow_in old f ≡ Some was) × PlacesKeep was flow
  pub goes : (f : FlowId) → goes_to new f ≡ goes_to old f
  pub live : (x : ℕ) → is_live_in new x ≡ is_live_in old x

pub changed_keep : (f : FlowId) (change : Flow → Flow) (old new : Flows) → ((flow : Flow) → flow_in old f ≡ Some flow → PlacesKeep flow (change flow)) → ChangesFlow f change old.exchanges new.exchanges → FlowsKeep old new
changed_keep f change old new keeps c = record {
  last = c.flow.last;
  each = λ g flow found. by_case (same_flow f g)
      (λ same. mine g flow (same_flow_exact f g same) (sym (now g ∙ ap (λ b. if b then option_map change (flow_in old g) else flow_in old g) same) ∙ found))
      (λ other. (flow, sym (now g ∙ ap (λ b. if b then option_map change (flow_in old g) else flow_in old g) other) ∙ found, places_same flow flow refl));
  goes = λ g. target_after f change old.exchanges new.exchanges c g;
  live = λ x. live_after f change old.exchanges new.exchanges c x;
}
  where
    now : (g : FlowId) → flow_in new g ≡ (if same_flow f g then option_map change (flow_in old g) else flow_in old g)
    now g = flow_after f change old.exchanges new.exchanges c g

    mapped : (g : FlowId) (flow : Flow) → ((v : Flow) → flow_in old g ≡ Some v → PlacesKeep v (change v)) → (o : Option Flow) → flow_in old g ≡ o → option_map change o ≡ Some flow → (was : Flow) × (flow_in old g ≡ Some was) × PlacesKeep was flow
    mapped g flow does None is e = cc
    mapped g flow does (Some v) is e = (v, is, subst (PlacesKeep v) (same_Some (change v) flow e) (does v is))

    mine : (g : FlowId) (flow : Flow) → f ≡ g → option_map change (flow_in old g) ≡ Some flow → (was : Flow) × (flow_in old g ≡ Some was) × PlacesKeep was flow
    mine g flow same e = mapped g flow (subst (λ (v : FlowId). (x : Flow) → flow_in old v ≡ Some x → PlacesKeep x (change x)) same keeps) (flow_in old g) refl e

-- exchanges that are found as before
pub found_keep : (old new : Flows) → new.exchanges.last ≡ old.exchanges.last → ((f : FlowId) → flow_in new f ≡ flow_in old f) → ((f : FlowId) → goes_to new f ≡ goes_to old f) → ((x : ℕ) → is_live_in new x ≡ is_live_in old x) → FlowsKeep old new
found_keep old new last same goes live = record { last = last; each = λ f flow found. (flow, sym (same f) ∙ found, places_same flow flow refl); goes = goes; live = live }

pub exchanges_keep : (old new : Flows) → new.exchanges ≡ old.exchanges → FlowsKeep old new
exchanges_keep old new e = found_keep old new (ap (λ (x : Exchanges). x.last) e) (λ f. ap (λ (x : Exchanges). flow_at x f) e) (λ f. ap (λ (x : Exchanges). target_of x f) e) (λ x. ap (λ (v : Exchanges). is_live v x) e)

-- each flow as a change makes it
pub mapped_keep : (change : Flow → Flow) → ((flow : Flow) → PlacesKeep flow (change flow)) → (old new : Flows) → new.exchanges.last ≡ old.exchanges.last → ((f : FlowId) → flow_in new f ≡ option_map change (flow_in old f))
    → ((f : FlowId) → goes_to new f ≡ goes_to old f) → ((x : ℕ) → is_live_in new x ≡ is_live_in old x) → FlowsKeep old new
mapped_keep change keeps old new last same goes live = record { last = last; each = λ f flow found. mine f flow (flow_in old f) refl (sym (same f) ∙ found); goes = goes; live = live }
  where
    mine : (f : FlowId) (flow : Flow) (o : Option Flow) → flow_in old f ≡ o → option_map change o ≡ Some flow → (was : Flow) × (flow_in old f ≡ Some was) × PlacesKeep was flow
    mine f flow None is e = cc
    mine f flow (Some v) is e = (v, is, subst (PlacesKeep v) (same_Some (change v) flow e) (keeps v))

-- what is seen of the write buffers comes of the gates alone
pub write_stays : (c : ℕ) (old new : Flows) → new.gates ≡ old.gates → write_at c new ≡ write_at c old
write_stays c old new e = write_seen c new ∙ ((λ i. write_of (is_known (e i) (buffer.Write c)) (is_marked (e i) (buffer.Write c)) (pending_on (e i) (buffer.Write c))) ∙ sym (write_seen c old))

-- gates that hold each flow back as often as before
pub record GatesKeep (t u t' u' : Option ℕ) (conns : PagedMap Conn) (old new : Flows) : Type 0 where
  pub low : (f : FlowId) → is_there new f ≡ true → lows new.gates f ≡ lows old.gates f
  pub marks : (c : ℕ) → holds_back c new ≡ is_above_at c conns
  pub known : (c : ℕ) → has_conn c conns ≡ true → IsSome (write_at c new)
  pub told : (b : BufferId) → (pending_on new.gates b ≡ []) ⊎ MayLag t' u' b

pub counts_gates : {l : LimitKeys} {t u t' u' : Option ℕ} → (conns : PagedMap Conn) (old new : Flows) (h : WayHistory) → FlowsKeep old new → IsSound new → GatesKeep t u t' u' conns old new → Counts l t u conns old h → Counts l t' u' conns new h
counts_gates {l} conns old new h keeps sound g c = record {
  sound = sound;
  each = λ f. each f (flow_in new f) refl;
  unpaused = λ f lt. c.unpaused f (subst (λ (n : ℕ). n < f.exchange) keeps.last lt);
  living = λ x. c.living x ∙ sym (keeps.live x);
  over = c.over;
  marks = g.marks;
  known = g.known;
  told = g.told;
  turns = c.turns;
}
  where
    overs : (f : FlowId) (was flow : Flow) → PlacesKeep was flow → AreOver l f h was → AreOver l f h flow
    overs f was flow keep over p y found source =
        let k = keep.each p y found in
        k.3 ∙ (over p k.0 k.1 (ap is_source (sym k.2) ∙ source) ∙ ap (λ (kd : PlaceKind). above (tape_setup l) (buffer_of f p (kind_of kd)) h) (sym k.2))

    each : (f : FlowId) (o : Option Flow) → flow_in new f ≡ o → IfSome o (IsCounted l new f h)
    each f None found = tt
    each f (Some flow) found =
        let k = keeps.each f flow found in
        let counted : IsCounted l old f h k.0 = subst (λ (o : Option Flow). IfSome o (IsCounted l old f h)) k.1 (c.each f) in
        record {
          paused = counted.paused ∙ ap (λ (n : ℕ). resumes f h + (disabled (tape_setup l) f h + n)) (sym (g.low f (ap is_some found)));
          over = overs f k.0 flow k.2 counted.over;
          goes = keeps.goes f ∙ counted.goes;
        }

-- the gates stay
pub counts_flows : {l : LimitKeys} {t u : Option ℕ} → (conns : PagedMap Conn) (old new : Flows) (h : WayHistory) → FlowsKeep old new → new.gates ≡ old.gates → IsSound new → Counts l t u conns old h → Counts l t u conns new h
counts_flows {l} {t} {u} conns old new h keeps e sound c = counts_gates {l = l} {t = t} {u = u} {t' = t} {u' = u} conns old new h keeps sound (record {
  low = λ f there. ap (λ (b : Board). lows b f) e;
  marks = λ d. ap (λ (o : Option Write). option_map_or (λ w. w.above) o false) (write_stays d old new e) ∙ c.marks d;
  known = λ d there. subst IsSome (sym (write_stays d old new e)) (c.known d there);
  told = λ b. at b (c.told b);
}) c
  where
    at : (b : BufferId) → (pending_on old.gates b ≡ []) ⊎ MayLag t u b → (pending_on new.gates b ≡ []) ⊎ MayLag t u b
    at b (inl none) = inl (ap (λ (v : Board). pending_on v b) e ∙ none)
    at b (inr may) = inr may

-- all is found as before, and the gates are seen as before
pub counts_seen : {l : LimitKeys} {t u : Option ℕ} → (conns : PagedMap Conn) (old new : Flows) (h : WayHistory) → new.exchanges.last ≡ old.exchanges.last → ((f : FlowId) → flow_in new f ≡ flow_in old f) → ((f : FlowId) → goes_to new f ≡ goes_to old f) → ((x : ℕ) → is_live_in new x ≡ is_live_in old x)
    → IsSound new → KeepsWrites old new → ((b : BufferId) → pending_on new.gates b ≡ pending_on old.gates b) → Counts l t u conns old h → Counts l t u conns new h
counts_seen {l} {t} {u} conns old new h last found goes live sound writes same c = counts_gates {l = l} {t = t} {u = u} {t' = t} {u' = u} conns old new h (found_keep old new last found goes live) sound (record {
  low = λ f there. lows_same f old.gates new.gates (sound.watched f ∙ ((λ i. option_map_or (watches_of (goes f i)) (found f i) []) ∙ sym (c.sound.watched f))) same;
  marks = λ d. ap (λ (o : Option Write). option_map_or (λ w. w.above) o false) (writes.writes d) ∙ c.marks d;
  known = λ d there. subst IsSome (sym (writes.writes d)) (c.known d there);
  told = λ b. at b (c.told b);
}) c
  where
    at : (b : BufferId) → (pending_on old.gates b ≡ []) ⊎ MayLag t u b → (pending_on new.gates b ≡ []) ⊎ MayLag t u b
    at b (inl none) = inl (same b ∙ none)
    at b (inr may) = inr may
