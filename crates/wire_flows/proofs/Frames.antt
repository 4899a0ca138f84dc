-- What a DATA frame makes of a flow.
use Rattle.exchange_core.specs.Effects.{body_framed}
use Rattle.exchange_core.specs.Flow.{Flow, held_by, last_place, send}
use Rattle.exchange_core.specs.Message.{end_framed_if, head_came, head_waits, trailers_wait}
use Rattle.exchange_core.specs.Units.{next_unit}
use Rattle.filter_chain.proofs.Changes.{changed_is}
use Rattle.filter_chain.specs.Chain.{EndsInSend, above_at, kinds, place_at}
use Rattle.filter_chain.specs.Effects.{changed_at, last_loses}
use Rattle.filter_chain.specs.Place.{Place, beyond, is_source, kind_of, losing}
use Rattle.filter_chain.specs.declared.stage.StageKind.TheVariants.{Send}
use Rattle.flow_gate.specs.Board.{Board, is_marked}
use Rattle.flow_gate.specs.Ids.{is_own, same_buffer}
use Rattle.flow_rules.specs.declared.ids.BufferId.{BufferId}
use Rattle.flow_rules.specs.declared.ids.FlowId.{FlowId}
use Rattle.flow_rules.specs.Kinds.{Kind}
use Rattle.std.proofs.Common.{ap, arith, refl, subst, sym, ◌∙◌}
use Rattle.std.proofs.lemmas.List.{length-drop}
use Rattle.std.proofs.lemmas.List.Sums.{sum_by-cons}
use Rattle.std.proofs.lemmas.Option.{none-some, same_Some}
use Rattle.std.specs.List.{AllByRecursion, sum_by}
use Rattle.std.specs.Option.{option_map_or}
use Rattle.std.specs.Prelude.{Bool, List, None, Option, Some, [], drop, false, if◌then◌else◌, length, map, not, set, slice_get, suc, true, zero, ℕ, ◌*◌, ◌+◌, ◌-◌, ◌<◌, ◌||◌, ◌∷◌, ◌≡◌, ◌≤◌}
use Rattle.flow_gate.proofs.SameIds.{same_buffer_exact, same_flow-refl}
use Rattle.wire_flows.proofs.Cases.{by_case}
use Rattle.wire_flows.proofs.Kept.{KeepsFlow, KeepsWay, own_is}
use Rattle.wire_flows.proofs.Marks.{Marked, marked_by, marking, set_marked}
use Rattle.wire_flows.proofs.Places.{all_get, all_set, kinds_set, lost_way}
use Rattle.wire_flows.specs.Measure.{flow_way, forty_if, message_way, places_way}
use Rattle.wire_flows.specs.Sound.{IsBounded, IsWireFlow, IsWithin, MarksAre, buffer_of}
use Rattle.flow_rules.specs.declared.ids.BufferId.TheVariants as buffer

-- ---- the last place
pub record LastIs (places : List Place) : Type 0 where
  pub index : ℕ
  pub place : Place
  pub last : suc index ≡ length places
  pub at : slice_get places index ≡ Some place
  pub sends : place.kind ≡ Send

pub last_found : (places : List Place) → EndsInSend (kinds places) → LastIs places
last_found [] ends = absurd ends
last_found (x ∷ []) ends = record { index = zero; place = x; last = omega arith; at = refl; sends = ends }
last_found (x ∷ y ∷ ys) ends =
    let rest = last_found (y ∷ ys) ends.1 in
    record { index = suc rest.index; place = rest.place; last = omega (arith, rest.last); at = rest.at; sends = rest.sends }

-- ---- sums of octets
pub sum_set : (places : List Place) (i : ℕ) (x y : Place) → slice_get places i ≡ Some x
    → sum_by (λ place. length place.octets) (set places i y) + length x.octets ≡ sum_by (λ place. length place.octets) places + length y.octets
sum_set [] i x y at = absurd (none-some x at)
sum_set (z ∷ places) zero x y at =
    let same = ap (λ (p : Place). length p.octets) (same_Some z x at) in
    omega (arith, sum_by-cons (λ (p : Place). length p.octets) y places, sum_by-cons (λ (p : Place). length p.octets) z places, same)
sum_set (z ∷ places) (suc i) x y at =
    omega (arith, sum_by-cons (λ (p : Place). length p.octets) z (set places i y), sum_by-cons (λ (p : Place). length p.octets) z places, sum_set places i x y at)

-- ---- the places after a frame
module _ (flow : Flow) (n : ℕ) (last : Bool) (l : LastIs flow.chain.places) where
  pub places_are : last_loses flow.chain.places n ≡ set flow.chain.places l.index (losing n l.place)
  places_are = ap (λ k. changed_at (losing n) k flow.chain.places) (sym l.last) ∙ changed_is (losing n) flow.chain.places l.index l.place l.at

  -- what the send buffer holds
  pub send_is : send flow ≡ l.place.octets
  send_is = ap (λ k. octets_at k) (sym l.last) ∙ ap (λ (o : Option Place). option_map_or (λ place. place.octets) o []) l.at
    where
      octets_at : ℕ → List ℕ
      octets_at zero = flow.recv
      octets_at (suc i) = option_map_or (λ place. place.octets) (slice_get flow.chain.places i) []

  same_length : (xs : List Place) (i : ℕ) (y : Place) → length (set xs i y) ≡ length xs
  same_length [] i y = refl
  same_length (x ∷ xs) zero y = refl
  same_length (x ∷ xs) (suc i) y = let rest = same_length xs i y in omega (arith, rest)

  framed_way_kept : KeepsWay flow (body_framed n last flow)
  framed_way_kept = record {
    own = refl;
    kinds = ap (λ ps. map {B = Kind} (λ place. kind_of place.kind) ps) places_are ∙ kinds_set flow.chain.places l.index l.place (losing n l.place) l.at refl;
    last = ap length places_are ∙ same_length flow.chain.places l.index (losing n l.place);
  }

  within_kept : (q : ℕ) → AllByRecursion (IsWithin q) flow.chain.places → AllByRecursion (IsWithin q) (last_loses flow.chain.places n)
  within_kept q all = subst (AllByRecursion (IsWithin q)) (sym places_are)
      (all_set (IsWithin q) flow.chain.places l.index (losing n l.place) all
      (λ some. less (length l.place.octets) (length (drop n l.place.octets)) (l.place.limit + beyond l.place.kind q) (length-drop n l.place.octets) (all_get (IsWithin q) flow.chain.places l.index l.place all l.at some)))
    where
      less : (a b c : ℕ) → b ≡ a - n → a ≤ c → b ≤ c
      less a b c e h = omega (arith, e, h)

  held_less : held_by (body_framed n last flow) ≤ held_by flow
  held_less = sums (length flow.recv) (sum_by (λ place. length place.octets) (set flow.chain.places l.index (losing n l.place))) (sum_by (λ place. length place.octets) flow.chain.places) (length l.place.octets) (length (drop n l.place.octets))
      (ap (λ ps. length flow.recv + sum_by (λ place. length place.octets) ps) places_are) (sum_set flow.chain.places l.index l.place (losing n l.place) l.at) (length-drop n l.place.octets)
    where
      sums : (r a b x y : ℕ) → held_by (body_framed n last flow) ≡ r + a → a + x ≡ b + y → y ≡ x - n → held_by (body_framed n last flow) ≤ r + b
      sums r a b x y e f g = omega (arith, e, f, g)

  -- the send buffer is marked as it is now, and the others as before
  pub framed_kept : (board board' : Board) → is_marked board' (buffer.Send flow.chain.flow) ≡ (losing n l.place).above
      → ((b : BufferId) → is_own flow.chain.flow b ≡ true → same_buffer (buffer.Send flow.chain.flow) b ≡ false → is_marked board' b ≡ is_marked board b) → EndsInSend (kinds flow.chain.places) → KeepsFlow board board' flow (body_framed n last flow)
  framed_kept board board' here others ends = record {
    way = framed_way_kept;
    wire = λ w. record {
      bounded = record { recv = w.bounded.recv; places = within_kept flow.chain.quantum w.bounded.places };
      headed = λ some. w.headed (more (held_by (body_framed n last flow)) (held_by flow) some held_less);
    };
    marks = λ m. record { each = each m };
  }
    where
      more : (a b : ℕ) → 0 < a → a ≤ b → 0 < b
      more a b s h = omega (arith, s, h)

      own : buffer_of flow.chain.flow (suc l.index) (kind_of l.place.kind) ≡ buffer.Send flow.chain.flow
      own = ap (λ k. buffer_of flow.chain.flow (suc l.index) (kind_of k)) l.sends

      marked : MarksAre board flow → Marked (is_marked board') flow.chain.flow (set flow.chain.places l.index (losing n l.place))
      marked m = marked_by (marking (buffer_of flow.chain.flow (suc l.index) (kind_of l.place.kind)) (losing n l.place).above (is_marked board)) (is_marked board') flow.chain.flow (set flow.chain.places l.index (losing n l.place))
          (λ i place at source. as_marked (buffer_of flow.chain.flow (suc i) (kind_of place.kind)) (own_is flow.chain.flow flow.chain.flow (suc i) (kind_of place.kind) ∙ same_flow-refl flow.chain.flow))
          (set_marked (is_marked board) flow.chain.flow flow.chain.places l.index l.place (losing n l.place) ends l.at refl (λ i place at source. m.each (suc i) place at source))
        where
          as_marked : (b : BufferId) → is_own flow.chain.flow b ≡ true → is_marked board' b ≡ marking (buffer_of flow.chain.flow (suc l.index) (kind_of l.place.kind)) (losing n l.place).above (is_marked board) b
          as_marked b mine = by_case (same_buffer (buffer_of flow.chain.flow (suc l.index) (kind_of l.place.kind)) b)
              (λ same. ap (is_marked board') (sym (same_buffer_exact (buffer_of flow.chain.flow (suc l.index) (kind_of l.place.kind)) b same)) ∙ (ap (is_marked board') own ∙ (here ∙ sym (ap (λ t. if t then (losing n l.place).above else is_marked board b) same))))
              (λ other. others b mine (ap (λ c. same_buffer c b) (sym own) ∙ other) ∙ sym (ap (λ t. if t then (losing n l.place).above else is_marked board b) other))

      each : MarksAre board flow → (p : ℕ) (place : Place) → place_at (body_framed n last flow).chain.places p ≡ Some place → is_source place.kind ≡ true
          → is_marked board' (buffer_of flow.chain.flow p (kind_of place.kind)) ≡ place.above
      each m zero place at source = absurd (none-some place at)
      each m (suc i) place at source = marked m i place (ap (λ ps. slice_get ps i) (sym places_are) ∙ at) source

  -- ---- its way
  pub framed_way : n ≤ length (send flow) → flow_way (body_framed n last flow) + (40 * n + forty_if (not flow.message.end_framed)) ≡ flow_way flow + forty_if (not (flow.message.end_framed || last))
  framed_way few = sums (length flow.chain.places) (length (last_loses flow.chain.places n)) (length flow.recv) (places_way (last_loses flow.chain.places n)) (places_way flow.chain.places) (forty_if (head_waits flow.message)) (forty_if (trailers_wait flow.message)) _ _
      framed_way_kept.last (lost_way flow.chain.places l.index n l.place l.last l.at (subst (λ (xs : List ℕ). n ≤ length xs) send_is few))
    where
      sums : (k k' r p' p h t e e' : ℕ) → k' ≡ k → p' + 40 * n ≡ p → (((40 + 20 * k') * r + p') + (h + (t + e'))) + (40 * n + e) ≡ (((40 + 20 * k) * r + p) + (h + (t + e))) + e'
      sums k k' r p' p h t e e' same s = subst (λ x. (((40 + 20 * x) * r + p') + (h + (t + e'))) + (40 * n + e) ≡ (((40 + 20 * k) * r + p) + (h + (t + e))) + e') (sym same) (omega (arith, s))

-- with octets, or with an end that wasn't framed, it is forty less
pub framed_less : (a b n : ℕ) (was last : Bool) → a + (40 * n + forty_if (not was)) ≡ b + forty_if (not (was || last)) → (n ≡ 0 → (last ≡ true) × (was ≡ false)) → a + 40 ≤ b
framed_less a b zero was last e empty =
    let is = empty refl in
    let gone : forty_if (not (was || last)) ≡ 0 = (λ i. forty_if (not (is.1 i || is.0 i))) in
    let there : forty_if (not was) ≡ 40 = (λ i. forty_if (not (is.1 i))) in
    omega (arith, e, gone, there)
framed_less a b (suc n) was last e empty = omega (arith, e, less was last)
  where
    less : (was last : Bool) → forty_if (not (was || last)) ≤ forty_if (not was)
    less true last = omega arith
    less false true = omega arith
    less false false = omega arith
