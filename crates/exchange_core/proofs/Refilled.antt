-- What new tokens leave of places.
use Rattle.exchange_core.specs.Flow.{is_filled_meter}
use Rattle.filter_chain.specs.Chain.{kinds}
use Rattle.filter_chain.specs.Place.{IsPlace, IsWithinKind, Place, is_source, refilled}
use Rattle.filter_chain.specs.declared.stage.StageKind.{StageKind}
use Rattle.filter_chain.specs.declared.stage.StageKind.TheVariants.{Hold, Meter, Send}
use Rattle.std.proofs.Common.{ap, arith, refl, sym, ◌∙◌}
use Rattle.std.proofs.lemmas.List.Sums.{sum_by-cons}
use Rattle.std.specs.List.{list_any}
use Rattle.std.specs.Option.{option_map_or}
use Rattle.std.specs.Prelude.{List, [], false, length, map, slice_get, suc, sum_by, zero, ℕ, ◌+◌, ◌∷◌, ◌≡◌}

module _ (n : ℕ) where
  refilled_within : (kind : StageKind) (place : Place) → IsWithinKind kind place → IsWithinKind kind (refilled n place)
  refilled_within Hold place is = is
  refilled_within (Meter rate) place is = is
  refilled_within Send place is = is

  pub refilled_place : (place : Place) → IsPlace place → IsPlace (refilled n place)
  refilled_place place sound = record { high = sound.high; low = sound.low; tokens = omega arith; kind = refilled_within place.kind place sound.kind }

  pub refilled_kinds : (places : List Place) → kinds (map (refilled n) places) ≡ kinds places
  refilled_kinds [] = refl
  refilled_kinds (place ∷ places) = cc (refilled_kinds places)

  pub refilled_length : (places : List Place) → length (map (refilled n) places) ≡ length places
  refilled_length [] = refl
  refilled_length (place ∷ places) = let rest = refilled_length places in omega (arith, rest)

  pub refilled_octets : (places : List Place) (i : ℕ) →
      option_map_or (λ place. place.octets) (slice_get (map (refilled n) places) i) [] ≡ option_map_or (λ place. place.octets) (slice_get places i) []
  refilled_octets [] i = refl
  refilled_octets (place ∷ places) zero = refl
  refilled_octets (place ∷ places) (suc i) = refilled_octets places i

  pub refilled_source : (places : List Place) (i : ℕ) →
      option_map_or (λ place. is_source place.kind) (slice_get (map (refilled n) places) i) false ≡ option_map_or (λ place. is_source place.kind) (slice_get places i) false
  refilled_source [] i = refl
  refilled_source (place ∷ places) zero = refl
  refilled_source (place ∷ places) (suc i) = refilled_source places i

  pub refilled_sum : (places : List Place) → sum_by (λ place. length place.octets) (map (refilled n) places) ≡ sum_by (λ place. length place.octets) places
  refilled_sum [] = refl
  refilled_sum (place ∷ places) =
      sum_by-cons (λ p. length p.octets) (refilled n place) (map (refilled n) places)
      ∙ ap (λ m. length place.octets + m) (refilled_sum places)
      ∙ sym (sum_by-cons (λ p. length p.octets) place places)

  pub refilled_any : (places : List Place) → list_any is_filled_meter (map (refilled n) places) ≡ list_any is_filled_meter places
  refilled_any [] = refl
  refilled_any (place ∷ places) = cc (refilled_any places)
