-- What holds at all times is kept where the Meters of all flows went on.
use Rattle.exchange_core.proofs.Refilled.{refilled_length, refilled_sum}
use Rattle.exchange_core.proofs.Untouched.{flow_seen, target_seen}
use Rattle.exchange_core.specs.Exchange.{at_moment, flow_in as side_of, goes_to as side_goes, seen_at}
use Rattle.exchange_core.specs.Exchanges.{Exchanges, IsSound as AreSoundExchanges, exchange_at, flow_at, target_of}
use Rattle.exchange_core.specs.Flow.{Flow, held_by}
use Rattle.exchange_core.specs.Message.{head_came}
use Rattle.exchange_core.specs.declared.exchange.Exchange.{Exchange}
use Rattle.filter_chain.specs.Chain.{Chain, place_at}
use Rattle.filter_chain.specs.Effects.{ticked}
use Rattle.filter_chain.specs.Place.{Place, is_source, kind_of, refilled}
use Rattle.flow_gate.specs.Board.{Board, is_marked}
use Rattle.flow_rules.specs.declared.ids.FlowId.{FlowId}
use Rattle.flow_rules.specs.Kinds.{Kind}
use Rattle.std.proofs.Common.{ap, refl, subst, sym, ◌∙◌}
use Rattle.std.proofs.lemmas.Option.{none-some, same_Some}
use Rattle.std.specs.List.{AllByRecursion, sum_by}
use Rattle.std.specs.Option.{option_and_then, option_map_or}
use Rattle.std.specs.Prelude.{Bool, IfSome, List, None, Option, Some, [], false, if◌then◌else◌, is_some, length, map, nat_lt, option_map, slice_get, suc, true, zero, ℕ, ◌+◌, ◌<◌, ◌∷◌, ◌≡◌}
use Rattle.wire_flows.proofs.Cases.{by_case, if_mapped, some_mapped}
use Rattle.wire_flows.proofs.Kept.{KeepsFlow, KeepsWay, watches_found, watches_same}
use Rattle.wire_flows.specs.Flows.{Flows, KeepsLeft, KeepsLive, flow_in, goes_to, watches_in, watches_of}
use Rattle.wire_flows.specs.Sound.{IsBounded, IsSound, IsWhole, IsWireFlow, IsWithin, MarksAre, buffer_of}

-- ---- places
kinds_kept : (n : ℕ) (places : List Place) → map {B = Kind} (λ place. kind_of place.kind) (map (refilled n) places) ≡ map (λ place. kind_of place.kind) places
kinds_kept n [] = refl
kinds_kept n (place ∷ places) = ap (λ kinds. kind_of place.kind ∷ kinds) (kinds_kept n places)

within_kept : (q n : ℕ) (places : List Place) → AllByRecursion (IsWithin q) places → AllByRecursion (IsWithin q) (map (refilled n) places)
within_kept q n [] all = tt
within_kept q n (place ∷ places) all = (all.0, within_kept q n places all.1)

place_kept : (n : ℕ) (places : List Place) (i : ℕ) → slice_get (map (refilled n) places) i ≡ option_map (refilled n) (slice_get places i)
place_kept n [] i = refl
place_kept n (place ∷ places) zero = refl
place_kept n (place ∷ places) (suc i) = place_kept n places i

-- a mark of a place is that of the place before
mark_kept : (board : Board) (f : FlowId) (n p : ℕ) (o : Option Place) (new : Place) → option_map (refilled n) o ≡ Some new → is_source new.kind ≡ true
    → ((place : Place) → o ≡ Some place → is_source place.kind ≡ true → is_marked board (buffer_of f p (kind_of place.kind)) ≡ place.above)
    → is_marked board (buffer_of f p (kind_of new.kind)) ≡ new.above
mark_kept board f n p None new is source m = absurd (none-some new is)
mark_kept board f n p (Some place) new is source m =
    let same : refilled n place ≡ new = same_Some (refilled n place) new is in
    subst (λ x. is_marked board (buffer_of f p (kind_of x.kind)) ≡ x.above) same (m place refl (ap (λ x. is_source x.kind) same ∙ source))

-- ---- a flow
module _ (board : Board) (now : ℕ) (flow : Flow) where
  later_kept : KeepsFlow board board flow (record flow { chain = ticked flow.chain now })
  later_kept = record {
    way = record { own = refl; kinds = kinds_kept _ flow.chain.places; last = refilled_length _ flow.chain.places };
    wire = λ w. record {
      bounded = record { recv = w.bounded.recv; places = within_kept flow.chain.quantum _ flow.chain.places w.bounded.places };
      headed = λ some. w.headed (subst (λ m. 0 < length flow.recv + m) (refilled_sum _ flow.chain.places) some);
    };
    marks = λ m. record { each = each m };
  }
    where
      each : MarksAre board flow → (p : ℕ) (place : Place) → place_at (ticked flow.chain now).places p ≡ Some place → is_source place.kind ≡ true
          → is_marked board (buffer_of flow.chain.flow p (kind_of place.kind)) ≡ place.above
      each m zero place at source = absurd (none-some place at)
      each m (suc i) place at source = mark_kept board flow.chain.flow _ (suc i) (slice_get flow.chain.places i) place (sym (place_kept _ flow.chain.places i) ∙ at) source (m.each (suc i))

  pub moment_kept : KeepsFlow board board flow (at_moment now flow)
  moment_kept = by_case (nat_lt flow.chain.time now)
      (λ later. subst (λ b. KeepsFlow board board flow (record flow { chain = if b then ticked flow.chain now else flow.chain })) (sym later) later_kept)
      (λ told. subst (λ b. KeepsFlow board board flow (record flow { chain = if b then ticked flow.chain now else flow.chain })) (sym told) (record {
        way = record { own = refl; kinds = refl; last = refl };
        wire = λ w. w;
        marks = λ m. m;
      }))

  pub moment_left : length (at_moment now flow).recv ≡ length flow.recv
  moment_left = refl

-- ---- all of them
found_seen : (now : ℕ) (b : Bool) (o : Option Exchange) → option_and_then (side_of b) (option_map (seen_at now) o) ≡ option_map (at_moment now) (option_and_then (side_of b) o)
found_seen now b None = refl
found_seen now b (Some e) = flow_seen now b e

goes_seen : (now : ℕ) (b : Bool) (o : Option Exchange) → option_and_then (side_goes b) (option_map (seen_at now) o) ≡ option_and_then (side_goes b) o
goes_seen now b None = refl
goes_seen now b (Some e) = target_seen now b e

whole_seen : (board : Board) (now : ℕ) (e : Exchange) → IsWhole e → IsWhole (seen_at now e)
whole_seen board now e w = record {
  request_is = (moment_kept board now e.request).wire w.request_is;
  response_is = if_mapped IsWireFlow IsWireFlow (at_moment now) e.response (λ flow found is. (moment_kept board now flow).wire is) w.response_is;
  both = some_mapped (at_moment now) e.response ∙ w.both;
}

module _ (now : ℕ) (old : Flows) (ex : Exchanges) (seen : (x : ℕ) → exchange_at ex x ≡ option_map (seen_at now) (exchange_at old.exchanges x)) where
  abbrev after : Flows
  after = record { exchanges = ex; gates = old.gates }

  flow_at_moment : (f : FlowId) → flow_at ex f ≡ option_map (at_moment now) (flow_in old f)
  flow_at_moment f = ap (option_and_then (side_of f.back)) (seen f.exchange) ∙ found_seen now f.back (exchange_at old.exchanges f.exchange)

  goes_same : (f : FlowId) → target_of ex f ≡ goes_to old f
  goes_same f = ap (option_and_then (side_goes f.back)) (seen f.exchange) ∙ goes_seen now f.back (exchange_at old.exchanges f.exchange)

  there_same : (f : FlowId) → is_some (flow_at ex f) ≡ is_some (flow_in old f)
  there_same f = ap is_some (flow_at_moment f) ∙ some_mapped (at_moment now) (flow_in old f)

  pub sound_ticked : AreSoundExchanges ex → IsSound old → IsSound after
  sound_ticked sound s = record {
    exchanges = sound;
    gates = s.gates;
    each = λ x. subst (λ o. IfSome o IsWhole) (sym (seen x)) (if_mapped IsWhole IsWhole (seen_at now) (exchange_at old.exchanges x) (λ e found w. whole_seen old.gates now e w) (s.each x));
    there = λ f. s.there f ∙ sym (there_same f);
    watched = λ f. s.watched f ∙ sym ((λ i. option_map_or (watches_of (goes_same f i)) (flow_at_moment f i) [])
        ∙ watches_found (goes_to old f) (at_moment now) (flow_in old f) (λ flow found. watches_same (goes_to old f) flow (at_moment now flow) (moment_kept old.gates now flow).way));
    own = λ f b own known. there_same f ∙ s.own f b own known;
    marks = λ f. subst (λ o. IfSome o (MarksAre old.gates)) (sym (flow_at_moment f)) (if_mapped (MarksAre old.gates) (MarksAre old.gates) (at_moment now) (flow_in old f) (λ flow found m. (moment_kept old.gates now flow).marks m) (s.marks f));
    told = s.told;
    order = s.order;
  }

  pub ticked_live : KeepsLive old after
  ticked_live = record {
    live = λ x. ap is_some (seen x) ∙ some_mapped (seen_at now) (exchange_at old.exchanges x);
    there = there_same;
    goes = goes_same;
  }

  pub ticked_left : KeepsLeft old after
  ticked_left = record { left = λ f. ap (λ o. option_map_or (λ flow. length flow.recv) o 0) (flow_at_moment f) ∙ by_found (flow_in old f) }
    where
      by_found : (o : Option Flow) → option_map_or (λ flow. length flow.recv) (option_map (at_moment now) o) 0 ≡ option_map_or (λ flow. length flow.recv) o 0
      by_found None = refl
      by_found (Some flow) = refl
