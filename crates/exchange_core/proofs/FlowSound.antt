-- A flow stays as it should be, whatever is done to it.
use Rattle.std.proofs.Common.{◌≡◌, ◌<◌, ◌≤◌, ℕ, suc, zero, List, [], ◌∷◌, length, true, refl, arith}
use Rattle.std.proofs.lemmas.List.Sums.{sum_by-cons}
use Rattle.exchange_core.specs.Effects.{moved}
use Rattle.exchange_core.specs.Flow.{Flow, IsSound, held_by, octets_in}
use Rattle.filter_chain.specs.Chain.{IsSound as IsSoundChain}
use Rattle.filter_chain.specs.Place.{Place}
use Rattle.std.specs.Prelude.{IsSome, slice_get, sum_by}
use Rattle.std.specs.Option.{option_map_or}

-- ---- what the places hold
-- a place holds no more than all
at_most : (places : List Place) (i : ℕ) → length (option_map_or (λ place. place.octets) (slice_get places i) []) ≤ sum_by (λ place. length place.octets) places
at_most [] zero = omega arith
at_most [] (suc i) = omega arith
at_most (x ∷ places) zero = omega (arith, sum_by-cons (λ (place : Place). length place.octets) x places)
at_most (x ∷ places) (suc i) = omega (arith, at_most places i, sum_by-cons (λ (place : Place). length place.octets) x places)

pub held_at : (flow : Flow) (p : ℕ) → length (octets_in flow p) ≤ held_by flow
held_at flow zero = omega arith
held_at flow (suc i) =
    let rest : length (octets_in flow (suc i)) ≤ sum_by (λ place. length place.octets) flow.chain.places = at_most flow.chain.places i in
    omega arith

-- ---- the stages
-- ---- the message
-- some octet of a place moved, so nothing came with its head alone
filled : (flow : Flow) (p n : ℕ) → IsSound flow → 0 < n → n ≤ length (octets_in flow p) → IsSome flow.message.head → flow.message.head_ends ≡ true → ⊥
filled flow p n sound some few waits last =
    let none : held_by flow ≡ 0 = (sound.alone waits last).empty in
    let most : length (octets_in flow p) ≤ held_by flow = held_at flow p in
    absurd (omega arith)

pub moved_sound : (p n : ℕ) (flow : Flow) → IsSound flow → 0 < n → n ≤ length (octets_in flow p) → IsSoundChain (moved p n flow).chain → IsSound (moved p n flow)
moved_sound zero n flow sound some few chain = record {
  chain = chain;
  ended = sound.ended;
  whole = λ e. refl;
  trailers = sound.trailers;
  alone = λ waits last. absurd (filled flow zero n sound some few waits last);
}
moved_sound (suc p) n flow sound some few chain = record {
  chain = chain;
  ended = sound.ended;
  whole = sound.whole;
  trailers = sound.trailers;
  alone = λ waits last. absurd (filled flow (suc p) n sound some few waits last);
}
