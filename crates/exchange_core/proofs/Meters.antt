-- Whether some Meter of a flow holds octets, found place by place.
use Rattle.std.proofs.lemmas.Bool.Decides.{nat_tests}
use Rattle.std.proofs.Common.{◌≡◌, ◌≢◌, ◌+◌, ◌-◌, ◌<◌, ◌≤◌, ◌∙◌, ◌&&◌, ◌||◌, ℕ, suc, zero, List, [], ◌∷◌, drop, length, Bool, true, false, refl, sym, ap, subst, nat_lt, arith}
use Rattle.exchange_core.proofs.StageSources.{last_is, not_last}
use Rattle.exchange_core.specs.Flow.{Flow, is_filled_meter, is_meter, last_place}
use Rattle.filter_chain.specs.Chain.{EndsInSend, kinds, octets_at}
use Rattle.filter_chain.specs.Place.{Place, is_source}
use Rattle.filter_chain.specs.Release.{is_source_at}
use Rattle.filter_chain.specs.declared.stage.StageKind.{StageKind}
use Rattle.filter_chain.specs.declared.stage.StageKind.TheVariants.{Hold, Meter, Send}
use Rattle.std.specs.List.{list_any}
use Rattle.std.specs.Option.{option_map_or}
use Rattle.std.specs.Prelude.{None, Option, Some, slice_get}

-- among the places from the one with this index on
abbrev pub filled_from : ℕ → List Place → Bool
filled_from i places = list_any is_filled_meter (drop i places)

-- a source that isn't the send buffer is a Meter
meter_is : (kind : StageKind) → kind ≢ Send → is_meter kind ≡ is_source kind
meter_is Hold other = refl
meter_is (Meter rate) other = refl
meter_is Send other = absurd (other refl)

filled_is : (o : Option Place) → option_map_or (λ place. place.kind) o Hold ≢ Send
    → option_map_or is_filled_meter o false ≡ (option_map_or (λ place. is_source place.kind) o false && nat_lt 0 (length (option_map_or (λ place. place.octets) o [])))
filled_is None other = refl
filled_is (Some x) other = cc (meter_is x.kind other)

filled_next : (places : List Place) (i : ℕ) → i < length places → filled_from i places ≡ (option_map_or is_filled_meter (slice_get places i) false || filled_from (suc i) places)
filled_next [] i h = absurd (omega arith)
filled_next (x ∷ places) zero h = refl
filled_next (x ∷ places) (suc i) h = filled_next places i (omega arith)

found_filled : (flow : Flow) (i : ℕ) → suc i < last_place flow → EndsInSend (kinds flow.chain.places) → is_source_at flow.chain (suc i) ≡ true → 0 < length (octets_at flow.chain (suc i))
    → filled_from i flow.chain.places ≡ true
found_filled flow i last ends source some =
    let more : nat_lt 0 (length (octets_at flow.chain (suc i))) ≡ true = grind (arith, nat_tests) in
    filled_next flow.chain.places i (omega arith)
    ∙ (cc (filled_is (slice_get flow.chain.places i) (not_last flow.chain.places i last ends)))

none_filled : (flow : Flow) (i : ℕ) → suc i < last_place flow → EndsInSend (kinds flow.chain.places) → (is_source_at flow.chain (suc i) && nat_lt 0 (length (octets_at flow.chain (suc i)))) ≡ false
    → filled_from i flow.chain.places ≡ filled_from (suc i) flow.chain.places
none_filled flow i last ends none =
    cc (filled_next flow.chain.places i (omega arith), filled_is (slice_get flow.chain.places i) (not_last flow.chain.places i last ends))

-- the same of the place p
pub found_at : (flow : Flow) (p : ℕ) → 1 ≤ p → p < last_place flow → EndsInSend (kinds flow.chain.places) → is_source_at flow.chain p ≡ true → 0 < length (octets_at flow.chain p)
    → filled_from (p - 1) flow.chain.places ≡ true
found_at flow p first last ends source some =
    let e : p ≡ suc (p - 1) = omega arith in
    found_filled flow (p - 1) (omega arith) ends (subst (λ k. is_source_at flow.chain k ≡ true) e source) (subst (λ k. 0 < length (octets_at flow.chain k)) e some)

pub none_at : (flow : Flow) (p : ℕ) → 1 ≤ p → p < last_place flow → EndsInSend (kinds flow.chain.places) → (is_source_at flow.chain p && nat_lt 0 (length (octets_at flow.chain p))) ≡ false
    → filled_from ((p + 1) - 1) flow.chain.places ≡ filled_from (p - 1) flow.chain.places
none_at flow p first last ends none =
    let e : p ≡ suc (p - 1) = omega arith in
    let next : suc (p - 1) ≡ (p + 1) - 1 = omega arith in
    sym (none_filled flow (p - 1) (omega arith) ends (subst (λ k. (is_source_at flow.chain k && nat_lt 0 (length (octets_at flow.chain k))) ≡ false) e none)
    ∙ ap (λ k. filled_from k flow.chain.places) next)

-- the send buffer is none
last_filled : (o : Option Place) → option_map_or (λ place. place.kind) o Hold ≡ Send → option_map_or is_filled_meter o false ≡ false
last_filled None e = refl
last_filled (Some x) e = cc

beyond : (places : List Place) (i : ℕ) → length places ≤ i → filled_from i places ≡ false
beyond [] zero h = refl
beyond [] (suc i) h = refl
beyond (x ∷ places) zero h = absurd (omega arith)
beyond (x ∷ places) (suc i) h = beyond places i (omega arith)

pub last_none : (flow : Flow) (p : ℕ) → p ≡ last_place flow → 1 ≤ last_place flow → EndsInSend (kinds flow.chain.places) → filled_from (p - 1) flow.chain.places ≡ false
last_none flow p e some ends =
    cc (filled_next flow.chain.places (p - 1) (omega arith), last_filled (slice_get flow.chain.places (p - 1)) (last_is flow.chain.places (p - 1) (omega arith) ends), beyond flow.chain.places (suc (p - 1)) (omega arith))
