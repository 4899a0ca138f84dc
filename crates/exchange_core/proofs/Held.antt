-- How many octets a flow holds, counted place by place.
use Rattle.std.proofs.Common.{◌≡◌, ◌+◌, ◌<◌, ◌∙◌, ℕ, suc, zero, List, [], ◌∷◌, take, length, refl, ap, arith}
use Rattle.std.proofs.lemmas.List.Sums.{sum_by-cons}
use Rattle.exchange_core.specs.Flow.{Flow, last_place}
use Rattle.filter_chain.specs.Chain.{octets_at}
use Rattle.filter_chain.specs.Place.{Place}
use Rattle.std.specs.Option.{option_map_or}
use Rattle.std.specs.Prelude.{slice_get, sum_by}

-- in the first i places behind the receive buffer
abbrev pub held_in_first : ℕ → List Place → ℕ
held_in_first i places = sum_by (λ place. length place.octets) (take i places)

held_more : (places : List Place) (i : ℕ) → i < length places → held_in_first (suc i) places ≡ held_in_first i places + length (option_map_or (λ place. place.octets) (slice_get places i) [])
held_more [] i h = absurd (omega arith)
held_more (x ∷ places) zero h = omega (arith, sum_by-cons (λ (place : Place). length place.octets) x [])
held_more (x ∷ places) (suc i) h = omega (
  arith,
  held_more places i (omega arith),
  sum_by-cons (λ (place : Place). length place.octets) x (take i places),
  sum_by-cons (λ (place : Place). length place.octets) x (take (suc i) places),
)

pub held_next : (flow : Flow) (i : ℕ) → i < last_place flow → held_in_first (i + 1) flow.chain.places ≡ held_in_first i flow.chain.places + length (octets_at flow.chain (i + 1))
held_next flow i h =
    let one : i + 1 ≡ suc i = omega arith in
    ap (λ k. held_in_first k flow.chain.places) one ∙ (cc (held_more flow.chain.places i h))

take_all : (places : List Place) (i : ℕ) → i ≡ length places → held_in_first i places ≡ sum_by (λ place. length place.octets) places
take_all [] zero e = refl
take_all [] (suc i) e = absurd (omega arith)
take_all (x ∷ places) zero e = absurd (omega arith)
take_all (x ∷ places) (suc i) e = omega (
  arith,
  take_all places i (omega arith),
  sum_by-cons (λ (place : Place). length place.octets) x (take i places),
  sum_by-cons (λ (place : Place). length place.octets) x places,
)
