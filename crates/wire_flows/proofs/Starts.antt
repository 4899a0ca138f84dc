-- What holds at all times is kept where an exchange began.
use Rattle.exchange_core.specs.Changes.{Starts}
use Rattle.exchange_core.specs.Exchange.{begun, begun_flow, begun_response, filters_of, flow_id, flow_in as side_of, goes_to as side_goes, multiple_of, side_filters}
use Rattle.exchange_core.specs.Exchanges.{Exchanges, IsSound as AreSoundExchanges, exchange_at, flow_at, is_live, target_of}
use Rattle.exchange_core.specs.Flow.{Flow, held_by, last_place}
use Rattle.exchange_core.specs.declared.exchange.Exchange.{Exchange}
use Rattle.exchange_core.specs.declared.start.StartSpec.{StartSpec}
use Rattle.filter_chain.specs.Chain.{place_at, stages}
use Rattle.filter_chain.specs.Place.{Place, empty_place, is_source, kind_of}
use Rattle.filter_chain.specs.declared.stage.StageKind.TheVariants as stage
use Rattle.flow_gate.proofs.SameIds.{same_flow-refl, same_flow_exact}
use Rattle.flow_gate.specs.Board.{Board, IsSound as AreSoundGates, is_known, is_marked, is_open, pending_on, times, watched_by, watchers_of}
use Rattle.flow_gate.specs.Ids.{is_own, same_flow}
use Rattle.flow_rules.specs.declared.ids.BufferId.{BufferId}
use Rattle.flow_rules.specs.declared.ids.FlowId.{FlowId}
use Rattle.flow_rules.specs.Kinds.{Kind}
use Rattle.flow_rules.specs.Sources.{sources_from as in_order, write_source}
use Rattle.proxy_config.specs.declared.config.Config.{Config}
use Rattle.proxy_config.specs.declared.routes.Filter.{Filter}
use Rattle.proxy_config.specs.declared.routes.Filter.TheVariants.{Hold, Meter, Pass}
use Rattle.std.proofs.Common.{ap, arith, refl, subst, sym, ◌∙◌}
use Rattle.std.proofs.lemmas.List.Sums.{sum_by-cons}
use Rattle.std.proofs.lemmas.Option.{none-some, same_Some}
use Rattle.std.specs.List.{AllByRecursion, sum_by}
use Rattle.std.specs.Option.{option_and_then, option_map_or}
use Rattle.std.specs.Prelude.{Bool, IfSome, List, None, Option, Some, [], false, if◌then◌else◌, is_some, length, map, not, slice_get, suc, true, zero, ℕ, ◌&&◌, ◌*◌, ◌+◌, ◌++◌, ◌<◌, ◌==◌, ◌||◌, ◌∷◌, ◌≡◌, ◌≤◌}
use Rattle.wire_flows.proofs.Boards.{unknown_low}
use Rattle.wire_flows.proofs.Cases.{by_case, if_found, not_both, number_is, same_number}
use Rattle.wire_flows.proofs.Doomed.{no_side, one_side}
use Rattle.wire_flows.proofs.Found.{name_is}
use Rattle.wire_flows.proofs.Kept.{own_is}
use Rattle.wire_flows.proofs.Restored.{closed_watches}
use Rattle.wire_flows.proofs.Watched.{buffers_append, buffers_of}
use Rattle.wire_flows.specs.Begins.{BeginsBoth, IsFresh, meters, watches_from, write_of}
use Rattle.wire_flows.specs.Flows.{Flows, flow_in, goes_to, is_there, watches_in, watches_of}
use Rattle.wire_flows.specs.Measure.{flow_way, places_way, way}
use Rattle.wire_flows.specs.Sound.{IsBounded, IsSound, IsWhole, IsWireFlow, IsWithin, MarksAre, buffer_of}
use Rattle.flow_rules.specs.declared.ids.BufferId.TheVariants as buffer

-- ---- the places of a new flow
abbrev pub new_places : List Filter → ℕ → List Place
new_places filters limit = stages filters ++ empty_place stage.Send limit ∷ []

new_buffers : (f : FlowId) (p : ℕ) (filters : List Filter) (limit : ℕ) → buffers_of (in_order f p (map {B = Kind} (λ place. kind_of place.kind) (new_places filters limit))) ≡ meters f p filters ++ buffer.Send f ∷ []
new_buffers f p [] limit = refl
new_buffers f p (Pass ∷ filters) limit = new_buffers f p filters limit
new_buffers f p (Hold most ∷ filters) limit = new_buffers f (p + 1) filters limit
new_buffers f p (Meter most rate ∷ filters) limit = ap (λ bs. buffer.Stage f p ∷ bs) (new_buffers f (p + 1) filters limit)

write_buffers : (p : ℕ) (to : Option ℕ) → buffers_of (write_source p to) ≡ write_of to
write_buffers p None = refl
write_buffers p (Some c) = refl

append_assoc : (xs ys zs : List BufferId) → (xs ++ ys) ++ zs ≡ xs ++ (ys ++ zs)
append_assoc [] ys zs = refl
append_assoc (x ∷ xs) ys zs = ap (λ ws. x ∷ ws) (append_assoc xs ys zs)

pub new_watches : (f : FlowId) (filters : List Filter) (spec : StartSpec) (multiple : ℕ) (to : Option ℕ) → watches_of to (begun_flow f filters spec multiple) ≡ watches_from f filters to
new_watches f filters spec multiple to =
    buffers_append (in_order f 1 (map {B = Kind} (λ place. kind_of place.kind) (new_places filters spec.send))) (write_source (length (new_places filters spec.send) + 1) to)
    ∙ ((λ i. new_buffers f 1 filters spec.send i ++ write_buffers (length (new_places filters spec.send) + 1) to i) ∙ append_assoc (meters f 1 filters) (buffer.Send f ∷ []) (write_of to))

-- each is empty, and not above
within_new : (q : ℕ) (filters : List Filter) (limit : ℕ) → AllByRecursion (IsWithin q) (new_places filters limit)
within_new q [] limit = (λ some. omega arith, tt)
within_new q (Pass ∷ filters) limit = within_new q filters limit
within_new q (Hold most ∷ filters) limit = (λ some. omega arith, within_new q filters limit)
within_new q (Meter most rate ∷ filters) limit = (λ some. omega arith, within_new q filters limit)

empty_new : (filters : List Filter) (limit : ℕ) → sum_by (λ place. length place.octets) (new_places filters limit) ≡ 0
empty_new [] limit = omega (arith, sum_by-cons (λ (p : Place). length p.octets) (empty_place stage.Send limit) [])
empty_new (Pass ∷ filters) limit = empty_new filters limit
empty_new (Hold most ∷ filters) limit = omega (arith, sum_by-cons (λ (p : Place). length p.octets) (empty_place stage.Hold most) (new_places filters limit), empty_new filters limit)
empty_new (Meter most rate ∷ filters) limit = omega (arith, sum_by-cons (λ (p : Place). length p.octets) (empty_place (stage.Meter rate) most) (new_places filters limit), empty_new filters limit)

low_new : (filters : List Filter) (limit : ℕ) (i : ℕ) (place : Place) → slice_get (new_places filters limit) i ≡ Some place → place.above ≡ false
low_new [] limit zero place at = ap (λ (p : Place). p.above) (sym (same_Some (empty_place stage.Send limit) place at))
low_new [] limit (suc i) place at = absurd (none-some place at)
low_new (Pass ∷ filters) limit i place at = low_new filters limit i place at
low_new (Hold most ∷ filters) limit zero place at = ap (λ (p : Place). p.above) (sym (same_Some (empty_place stage.Hold most) place at))
low_new (Hold most ∷ filters) limit (suc i) place at = low_new filters limit i place at
low_new (Meter most rate ∷ filters) limit zero place at = ap (λ (p : Place). p.above) (sym (same_Some (empty_place (stage.Meter rate) most) place at))
low_new (Meter most rate ∷ filters) limit (suc i) place at = low_new filters limit i place at

way_new : (filters : List Filter) (limit : ℕ) → places_way (new_places filters limit) ≡ 0
way_new [] limit = omega arith
way_new (Pass ∷ filters) limit = way_new filters limit
way_new (Hold most ∷ filters) limit = let rest = way_new filters limit in omega (arith, rest)
way_new (Meter most rate ∷ filters) limit = let rest = way_new filters limit in omega (arith, rest)

-- ---- a new flow
module _ (f : FlowId) (filters : List Filter) (spec : StartSpec) (multiple : ℕ) where
  abbrev new_flow : Flow
  new_flow = begun_flow f filters spec multiple

  new_wire : IsWireFlow new_flow
  new_wire = record {
    bounded = record { recv = omega arith; places = within_new spec.quantum filters spec.send };
    headed = λ some. absurd (nothing (sum_by (λ place. length place.octets) (new_places filters spec.send)) some (empty_new filters spec.send));
  }
    where
      nothing : (a : ℕ) → 0 < 0 + a → a ≡ 0 → ⊥
      nothing a s e = omega (arith, s, e)

  pub new_marks : (board : Board) → ((b : BufferId) → is_own f b ≡ true → is_marked board b ≡ false) → MarksAre board new_flow
  new_marks board low = record { each = each }
    where
      own : (p : ℕ) (kind : Kind) → is_own f (buffer_of f p kind) ≡ true
      own p kind = own_is f f p kind ∙ same_flow-refl f

      each : (p : ℕ) (place : Place) → place_at (new_places filters spec.send) p ≡ Some place → is_source place.kind ≡ true → is_marked board (buffer_of f p (kind_of place.kind)) ≡ place.above
      each zero place at source = absurd (none-some place at)
      each (suc i) place at source = low (buffer_of f (suc i) (kind_of place.kind)) (own (suc i) (kind_of place.kind)) ∙ sym (low_new filters spec.send i place at)

  new_way : flow_way new_flow ≡ 40
  new_way = sums (length (new_places filters spec.send)) (places_way (new_places filters spec.send)) (way_new filters spec.send)
    where
      sums : (l p : ℕ) → p ≡ 0 → ((40 + 20 * l) * 0 + p) + (0 + (0 + 40)) ≡ 40
      sums l p e = omega (arith, e)

-- ---- a new exchange
pub response_new : (x : ℕ) (spec : StartSpec) (config : Config) → spec.plain ≡ false
    → begun_response x spec config ≡ Some (begun_flow (flow_id x true) (filters_of (side_filters true) spec.row config) spec config.limits.overflow_multiple)
response_new x spec config wire = ap (λ b. if b then None else Some (begun_flow (flow_id x true) (filters_of (side_filters true) spec.row config) spec config.limits.overflow_multiple)) wire

pub whole_new : (x : ℕ) (spec : StartSpec) (config : Config) → spec.plain ≡ false → IsWhole (begun x spec config)
whole_new x spec config wire = record {
  request_is = new_wire (flow_id x false) (filters_of (side_filters false) spec.row config) spec (multiple_of spec config);
  response_is = subst (λ o. IfSome o IsWireFlow) (sym (response_new x spec config wire)) (new_wire (flow_id x true) (filters_of (side_filters true) spec.row config) spec config.limits.overflow_multiple);
  both = ap is_some (response_new x spec config wire);
}

pub way_begun : (x : ℕ) (spec : StartSpec) (config : Config) → spec.plain ≡ false → way (begun x spec config) ≡ 144
way_begun x spec config wire = sums (flow_way (begun x spec config).request) (option_map_or flow_way (begun x spec config).response 0)
    (new_way (flow_id x false) (filters_of (side_filters false) spec.row config) spec (multiple_of spec config))
    (ap (λ o. option_map_or flow_way o 0) (response_new x spec config wire) ∙ new_way (flow_id x true) (filters_of (side_filters true) spec.row config) spec config.limits.overflow_multiple)
  where
    sums : (a b : ℕ) → a ≡ 40 → b ≡ 40 → 64 + (a + b) ≡ 144
    sums a b e f = omega (arith, e, f)
