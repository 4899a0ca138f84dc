-- What a change of one place leaves of the others, and of all.
use Rattle.std.proofs.Common.{◌≡◌, ◌∙◌, ℕ, suc, zero, List, [], ◌∷◌, length, false, refl, sym, ap, subst, All}
use Rattle.std.proofs.Math.ListN.{get_or, set}
use Rattle.std.proofs.Math.Seq.{map-set_same}
use Rattle.std.proofs.lemmas.List.{length-set}
use Rattle.std.proofs.lemmas.List.Elements.{All-get_or, All-set}
use Rattle.std.proofs.lemmas.Option.{get_or_from_slice_get, slice_get_within}
use Rattle.std.specs.Option.{option_map, option_map_or}
use Rattle.std.specs.Prelude.{Option, Some, None, slice_get, slice_set}
use Rattle.filter_chain.specs.Chain.{EndsInSend, kinds, place_at}
use Rattle.filter_chain.specs.Effects.{changed_at}
use Rattle.filter_chain.specs.Place.{IsPlace, Place, gaining}
use Rattle.filter_chain.specs.Release.{is_overfilled_by, overfills_in}
use Rattle.filter_chain.proofs.Marks.{IsPlace-gaining}
use Rattle.proxy_config.specs.Ranges.{IsBetween}

-- an element after a store
pub get-set_other : {X : Type 0} (xs : List X) (i j : ℕ) (y : X) → (j ≡ i → ⊥) → slice_get (set xs i y) j ≡ slice_get xs j
get-set_other [] i j y other = refl
get-set_other (x ∷ xs) zero zero y other = absurd (other refl)
get-set_other (x ∷ xs) zero (suc j) y other = refl
get-set_other (x ∷ xs) (suc i) zero y other = refl
get-set_other (x ∷ xs) (suc i) (suc j) y other = get-set_other xs i j y (λ e. other (ap suc e))

pub get-set_same : {X : Type 0} (xs : List X) (i : ℕ) (x y : X) → slice_get xs i ≡ Some x → slice_get (set xs i y) i ≡ Some y
get-set_same [] i x y e = cc
get-set_same (z ∷ xs) zero x y e = refl
get-set_same (z ∷ xs) (suc i) x y e = get-set_same xs i x y e

-- what f makes of a place that is there
pub changed_is : (f : Place → Place) (places : List Place) (i : ℕ) (x : Place) → slice_get places i ≡ Some x → changed_at f (suc i) places ≡ set places i (f x)
changed_is f places i x e = ap (λ (o : Option Place). option_map_or (λ place. slice_set places i (f place)) o places) e

pub changed_none : (f : Place → Place) (places : List Place) (i : ℕ) → slice_get places i ≡ None → changed_at f (suc i) places ≡ places
changed_none f places i e = ap (λ (o : Option Place). option_map_or (λ place. slice_set places i (f place)) o places) e

-- the other places stay
other_by : (f : Place → Place) (places : List Place) (i j : ℕ) (o : Option Place) → slice_get places i ≡ o → (j ≡ i → ⊥) → slice_get (changed_at f (suc i) places) j ≡ slice_get places j
other_by f places i j None e other = ap (λ ps. slice_get ps j) (changed_none f places i e)
other_by f places i j (Some x) e other = ap (λ ps. slice_get ps j) (changed_is f places i x e) ∙ get-set_other places i j (f x) other

pub place_at-changed_other : (f : Place → Place) (places : List Place) (p q : ℕ) → (q ≡ p → ⊥) → place_at (changed_at f p places) q ≡ place_at places q
place_at-changed_other f places zero q other = refl
place_at-changed_other f places (suc i) zero other = refl
place_at-changed_other f places (suc i) (suc j) other = other_by f places i j (slice_get places i) refl (λ e. other (ap suc e))

-- and the place itself is what f makes of it
same_by : (f : Place → Place) (places : List Place) (i : ℕ) (o : Option Place) → slice_get places i ≡ o → slice_get (changed_at f (suc i) places) i ≡ option_map f o
same_by f places i None e = ap (λ ps. slice_get ps i) (changed_none f places i e) ∙ e
same_by f places i (Some x) e = ap (λ ps. slice_get ps i) (changed_is f places i x e) ∙ get-set_same places i x (f x) e

pub place_at-changed_same : (f : Place → Place) (places : List Place) (p : ℕ) → place_at (changed_at f p places) p ≡ option_map f (place_at places p)
place_at-changed_same f places zero = refl
place_at-changed_same f places (suc i) = same_by f places i (slice_get places i) refl

-- stages and then a send buffer, each as it should be
pub record AreSound (places : List Place) : Type 0 where
  pub order : EndsInSend (kinds places)
  pub few : IsBetween 1 9 (length places)
  pub each : All IsPlace places

sound_by : (f : Place → Place) → ((x : Place) → (f x).kind ≡ x.kind) → (places : List Place) (i : ℕ) (o : Option Place) → slice_get places i ≡ o → ((x : Place) → o ≡ Some x → IsPlace x → IsPlace (f x)) → AreSound places → AreSound (changed_at f (suc i) places)
sound_by f keeps places i None e safe sound = subst AreSound (sym (changed_none f places i e)) sound
sound_by f keeps places i (Some x) e safe sound =
    let at : get_or places i x ≡ x = get_or_from_slice_get places i x x e in
    let was : IsPlace x = subst IsPlace at (All-get_or IsPlace places i x (slice_get_within places i x e) sound.each) in
    let same : kinds (set places i (f x)) ≡ kinds places = map-set_same (λ (place : Place). place.kind) places i (f x) x (keeps x ∙ ap (λ (place : Place). place.kind) (sym at)) in
    let those : AreSound (set places i (f x)) = record {
      order = subst EndsInSend (sym same) sound.order;
      few = subst (IsBetween 1 9) (sym (length-set places i (f x))) sound.few;
      each = All-set IsPlace places i (f x) (safe x refl was) sound.each;
    } in
    subst AreSound (sym (changed_is f places i x e)) those

pub changed_sound : (f : Place → Place) → ((x : Place) → (f x).kind ≡ x.kind) → (places : List Place) (p : ℕ) → ((x : Place) → place_at places p ≡ Some x → IsPlace x → IsPlace (f x)) → AreSound places → AreSound (changed_at f p places)
changed_sound f keeps places zero safe sound = sound
changed_sound f keeps places (suc i) safe sound = sound_by f keeps places i (slice_get places i) refl safe sound

-- a place that isn't overfilled gains octets
pub gaining_sound : (places : List Place) (p : ℕ) (octets : List ℕ) → overfills_in places p (length octets) ≡ false → AreSound places → AreSound (changed_at (gaining octets) p places)
gaining_sound places p octets free sound =
    changed_sound (gaining octets) (λ x. refl) places p
    (λ x e was. IsPlace-gaining octets x (sym (ap (λ (o : Option Place). option_map_or (is_overfilled_by (length octets)) o false) e) ∙ free) was) sound
