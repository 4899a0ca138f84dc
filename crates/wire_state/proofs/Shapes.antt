-- What the calls leave of a flow's window, quantum and places: all but what the places hold.
use Rattle.exchange_core.specs.Effects.{arrived, body_framed, moved}
use Rattle.exchange_core.specs.Exchange.{at_moment, begun_flow}
use Rattle.exchange_core.specs.Flow.{Flow, octets_in}
use Rattle.exchange_core.specs.declared.start.StartSpec.{StartSpec}
use Rattle.filter_chain.specs.Chain.{stages}
use Rattle.filter_chain.specs.Effects.{changed_at, ticked, whole_steps}
use Rattle.filter_chain.specs.Place.{Place, empty_place, gaining, letting_go, losing, refilled}
use Rattle.filter_chain.specs.declared.stage.StageKind.{StageKind as PlaceKind}
use Rattle.filter_chain.specs.declared.stage.StageKind.TheVariants as kind
use Rattle.flow_rules.specs.declared.ids.FlowId.{FlowId}
use Rattle.proxy_config.specs.declared.config.LimitKeys.{LimitKeys}
use Rattle.proxy_config.specs.declared.routes.Filter.{Filter}
use Rattle.proxy_config.specs.declared.routes.Filter.TheVariants as filter
use Rattle.std.proofs.Common.{ap, refl, sym, ◌∙◌}
use Rattle.std.proofs.lemmas.Option.{same_Some}
use Rattle.std.specs.Option.{option_map_or}
use Rattle.std.specs.Prelude.{Bool, List, None, Option, Some, [], false, if◌then◌else◌, length, map, nat_lt, slice_get, slice_set, suc, take, true, zero, ℕ, ◌++◌, ◌+◌, ◌-◌, ◌∷◌, ◌≡◌}
use Rattle.tape_laws.specs.Units.{StageKind}
use Rattle.wire_state.specs.Limits.{HasShape, shape_of, stage_shape}
use Rattle.wire_state.specs.Ways.{stages_of}

pub record SameShape (old new : Flow) : Type 0 where
  pub window : new.window ≡ old.window
  pub quantum : new.chain.quantum ≡ old.chain.quantum
  pub places : map shape_of new.chain.places ≡ map shape_of old.chain.places

pub shape_kept : {l : LimitKeys} → (stages : List StageKind) (old new : Flow) → SameShape old new → HasShape l stages old → HasShape l stages new
shape_kept stages old new s has = record { window = s.window ∙ has.window; quantum = s.quantum ∙ has.quantum; places = s.places ∙ has.places }

-- ---- one place is changed
set_shape : (xs : List Place) (i : ℕ) (x y : Place) → slice_get xs i ≡ Some x → shape_of y ≡ shape_of x → map shape_of (slice_set xs i y) ≡ map shape_of xs
set_shape [] i x y at same = refl
set_shape (z ∷ zs) zero x y at same = ap (λ (k : PlaceKind × ℕ). k ∷ map shape_of zs) (same ∙ ap shape_of (sym (same_Some z x at)))
set_shape (z ∷ zs) (suc i) x y at same = ap (λ (ks : List (PlaceKind × ℕ)). shape_of z ∷ ks) (set_shape zs i x y at same)

changed_shape : (f : Place → Place) → ((x : Place) → shape_of (f x) ≡ shape_of x) → (xs : List Place) (p : ℕ) → map shape_of (changed_at f p xs) ≡ map shape_of xs
changed_shape f same xs zero = refl
changed_shape f same xs (suc i) = at (slice_get xs i) refl
  where
    at : (o : Option Place) → slice_get xs i ≡ o → map shape_of (option_map_or (λ place. slice_set xs i (f place)) o xs) ≡ map shape_of xs
    at None e = refl
    at (Some x) e = set_shape xs i x (f x) e (same x)

-- ---- the calls
pub arrived_shape : (octets : List ℕ) (flow : Flow) → SameShape flow (arrived octets flow)
arrived_shape octets flow = record { window = refl; quantum = refl; places = refl }

pub moved_shape : (p n : ℕ) (flow : Flow) → SameShape flow (moved p n flow)
moved_shape zero n flow = record { window = refl; quantum = refl; places = changed_shape (gaining (take n flow.recv)) (λ x. refl) flow.chain.places 1 }
moved_shape (suc p) n flow = record {
  window = refl;
  quantum = refl;
  places = changed_shape (gaining (take n (octets_in flow (suc p)))) (λ x. refl) (changed_at (letting_go n) (suc p) flow.chain.places) (suc p + 1)
      ∙ changed_shape (letting_go n) (λ x. refl) flow.chain.places (suc p);
}

pub framed_shape : (n : ℕ) (last : Bool) (flow : Flow) → SameShape flow (body_framed n last flow)
framed_shape n last flow = record { window = refl; quantum = refl; places = changed_shape (losing n) (λ x. refl) flow.chain.places (length flow.chain.places) }

refilled_shape : (steps : ℕ) (xs : List Place) → map shape_of (map (refilled steps) xs) ≡ map shape_of xs
refilled_shape steps [] = refl
refilled_shape steps (x ∷ xs) = ap (λ (ks : List (PlaceKind × ℕ)). shape_of x ∷ ks) (refilled_shape steps xs)

pub seen_shape : (now : ℕ) (flow : Flow) → SameShape flow (at_moment now flow)
seen_shape now flow = at (nat_lt flow.chain.time now)
  where
    at : (b : Bool) → SameShape flow (record flow { chain = if b then ticked flow.chain now else flow.chain })
    at true = record { window = refl; quantum = refl; places = refilled_shape (whole_steps flow.chain.started now - whole_steps flow.chain.started flow.chain.time) flow.chain.places }
    at false = record { window = refl; quantum = refl; places = refl }

-- ---- a flow that begins
stages_shape : (filters : List Filter) (last : Place) → map shape_of (stages filters ++ last ∷ []) ≡ map stage_shape (stages_of filters) ++ shape_of last ∷ []
stages_shape [] last = refl
stages_shape (filter.Pass ∷ fs) last = stages_shape fs last
stages_shape (filter.Hold limit ∷ fs) last = ap (λ (ks : List (PlaceKind × ℕ)). (kind.Hold, limit) ∷ ks) (stages_shape fs last)
stages_shape (filter.Meter limit rate ∷ fs) last = ap (λ (ks : List (PlaceKind × ℕ)). (kind.Meter rate, limit) ∷ ks) (stages_shape fs last)

pub begun_shape : {l : LimitKeys} → (f : FlowId) (filters : List Filter) (spec : StartSpec) (multiple : ℕ) → (spec.recv ≡ l.stream_window) × (spec.send ≡ l.send_buffer) × (spec.quantum ≡ l.quantum)
    → HasShape l (stages_of filters) (begun_flow f filters spec multiple)
begun_shape f filters spec multiple under = record {
  window = under.0;
  quantum = under.2;
  places = stages_shape filters (empty_place kind.Send spec.send) ∙ ap (λ limit. map stage_shape (stages_of filters) ++ (kind.Send, limit) ∷ []) under.1;
}
