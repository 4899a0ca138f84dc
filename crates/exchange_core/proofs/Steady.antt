-- Changes of a flow leave its name and what it was told of the time, and all but a step leave what its Meters hold.
use Rattle.exchange_core.specs.Effects.{arrived, body_framed, finished, headed, list_framed, moved, received}
use Rattle.exchange_core.specs.Flow.{Flow, is_filled_meter, meters_hold}
use Rattle.exchange_core.specs.Moves.{left_from, stepped, may_release, last_free}
use Rattle.filter_chain.specs.Chain.{EndsInSend, kinds}
use Rattle.filter_chain.specs.Effects.{last_loses}
use Rattle.filter_chain.specs.Place.{Place, losing}
use Rattle.filter_chain.specs.Release.{overfills}
use Rattle.filter_chain.specs.declared.stage.StageKind.TheVariants.{Send}
use Rattle.flow_gate.specs.Board.{Board}
use Rattle.hpack_codec.specs.declared.fields.Field.{Field}
use Rattle.std.proofs.Common.{arith, refl, sym, ◌∙◌}
use Rattle.std.specs.List.{list_any}
use Rattle.std.specs.Option.{option_map_or}
use Rattle.std.specs.Prelude.{Bool, List, None, Option, Some, [], false, if◌then◌else◌, length, nat_le, slice_get, slice_set, suc, true, zero, ℕ, ◌+◌, ◌||◌, ◌∷◌, ◌≡◌}

-- a change of a flow that leaves its name and what it was told
pub record IsSteady (change : Flow → Flow) : Type 0 where
  pub own : (flow : Flow) → (change flow).chain.flow ≡ flow.chain.flow
  pub time : (flow : Flow) → (change flow).chain.time ≡ flow.chain.time

pub steady_same : IsSteady (λ flow. flow)
steady_same = record { own = λ flow. refl; time = λ flow. refl }

pub steady_headed : (fields : List Field) (last : Bool) → IsSteady (headed fields last)
steady_headed fields true = record { own = λ flow. refl; time = λ flow. refl }
steady_headed fields false = record { own = λ flow. refl; time = λ flow. refl }

pub steady_arrived : (octets : List ℕ) → IsSteady (arrived octets)
steady_arrived octets = record { own = λ flow. refl; time = λ flow. refl }

pub steady_received : (octets : List ℕ) → IsSteady (received octets)
steady_received octets = record {
  own = λ flow. elim (nat_le (length flow.recv + length octets) flow.window) as (λ b. (if b then arrived octets flow else flow).chain.flow ≡ flow.chain.flow) [ true ↦ refl | false ↦ refl ];
  time = λ flow. elim (nat_le (length flow.recv + length octets) flow.window) as (λ b. (if b then arrived octets flow else flow).chain.time ≡ flow.chain.time) [ true ↦ refl | false ↦ refl ];
}

pub steady_finished : (trailers : Option (List Field)) → IsSteady (finished trailers)
steady_finished trailers = record { own = λ flow. refl; time = λ flow. refl }

pub steady_listed : (last : Bool) → IsSteady (list_framed last)
steady_listed last = record { own = λ flow. refl; time = λ flow. refl }

pub steady_framed : (n : ℕ) (last : Bool) → IsSteady (body_framed n last)
steady_framed n last = record { own = λ flow. refl; time = λ flow. refl }

-- ---- a step
moved_own : (p n : ℕ) (flow : Flow) → (moved p n flow).chain.flow ≡ flow.chain.flow
moved_own zero n flow = refl
moved_own (suc p) n flow = refl

moved_time : (p n : ℕ) (flow : Flow) → (moved p n flow).chain.time ≡ flow.chain.time
moved_time zero n flow = refl
moved_time (suc p) n flow = refl

module _ (p n : ℕ) (flow : Flow) where
  left_own : (left_from flow p n).chain.flow ≡ flow.chain.flow
  left_own = elim (overfills flow.chain (p + 1) n) as (λ b. (if b then flow else moved p n flow).chain.flow ≡ flow.chain.flow) [ true ↦ refl | false ↦ moved_own p n flow ]

  left_time : (left_from flow p n).chain.time ≡ flow.chain.time
  left_time = elim (overfills flow.chain (p + 1) n) as (λ b. (if b then flow else moved p n flow).chain.time ≡ flow.chain.time) [ true ↦ refl | false ↦ moved_time p n flow ]

pub steady_stepped : (board : Board) (to : Option ℕ) → IsSteady (stepped board to)
steady_stepped board to = record {
  own = λ flow. by_place flow (last_free board to flow);
  time = λ flow. by_time flow (last_free board to flow);
}
  where
    by_place : (flow : Flow) (place : Option ℕ) → (option_map_or (λ p. left_from flow p (may_release board flow p)) place flow).chain.flow ≡ flow.chain.flow
    by_place flow None = refl
    by_place flow (Some p) = left_own p (may_release board flow p) flow

    by_time : (flow : Flow) (place : Option ℕ) → (option_map_or (λ p. left_from flow p (may_release board flow p)) place flow).chain.time ≡ flow.chain.time
    by_time flow None = refl
    by_time flow (Some p) = left_time p (may_release board flow p) flow

-- ---- what the Meters hold
pub calm_received : (octets : List ℕ) (flow : Flow) → meters_hold (received octets flow) ≡ meters_hold flow
calm_received octets flow = elim (nat_le (length flow.recv + length octets) flow.window) as (λ b. meters_hold (if b then arrived octets flow else flow) ≡ meters_hold flow) [ true ↦ refl | false ↦ refl ]

pub calm_headed : (fields : List Field) (last : Bool) (flow : Flow) → meters_hold (headed fields last flow) ≡ meters_hold flow
calm_headed fields true flow = refl
calm_headed fields false flow = refl

send_holds_none : (place : Place) → place.kind ≡ Send → is_filled_meter place ≡ false
send_holds_none place is = cc

last_calm : (n i : ℕ) (places : List Place) → suc i ≡ length places → EndsInSend (kinds places) →
    list_any is_filled_meter (option_map_or (λ place. slice_set places i (losing n place)) (slice_get places i) places) ≡ list_any is_filled_meter places
last_calm n i [] is ends = absurd ends
last_calm n zero (x ∷ []) is ends = λ i. (send_holds_none (losing n x) ends ∙ sym (send_holds_none x ends)) i || false
last_calm n (suc i) (x ∷ []) is ends = absurd (omega arith)
last_calm n zero (x ∷ y ∷ ys) is ends = absurd (omega arith)
last_calm n (suc i) (x ∷ y ∷ ys) is ends =
    cc (behind (slice_get (y ∷ ys) i), last_calm n i (y ∷ ys) (omega arith) ends.1)
  where
    behind : (o : Option Place) → list_any is_filled_meter (option_map_or (λ place. x ∷ slice_set (y ∷ ys) i (losing n place)) o (x ∷ y ∷ ys))
        ≡ (is_filled_meter x || list_any is_filled_meter (option_map_or (λ place. slice_set (y ∷ ys) i (losing n place)) o (y ∷ ys)))
    behind None = refl
    behind (Some place) = refl

loses_calm : (n : ℕ) (places : List Place) → EndsInSend (kinds places) → list_any is_filled_meter (last_loses places n) ≡ list_any is_filled_meter places
loses_calm n [] ends = refl
loses_calm n (x ∷ xs) ends = last_calm n (length xs) (x ∷ xs) refl ends

pub calm_framed : (n : ℕ) (last : Bool) (flow : Flow) → EndsInSend (kinds flow.chain.places) → meters_hold (body_framed n last flow) ≡ meters_hold flow
calm_framed n last flow ends = loses_calm n flow.chain.places ends
