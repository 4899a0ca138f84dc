-- A chain stays as it should be, whatever is done to it.
use Rattle.std.proofs.Common.{◌≡◌, ◌+◌, ◌≤◌, ◌∙◌, ◌↔◌, ℕ, List, [], ◌∷◌, length, map, take, Bool, true, false, refl, sym, ap, subst, arith, IsTrue}
use Rattle.std.proofs.lemmas.List.{length-map, length-take-le}
use Rattle.std.proofs.lemmas.List.Elements.{All-map, All-weaker}
use Rattle.std.specs.Option.{option_map_or}
use Rattle.std.specs.Prelude.{Err, Ok, OnOk, Option, Result}
use Rattle.filter_chain.proofs.Changes.{AreSound, changed_sound, gaining_sound, place_at-changed_other}
use Rattle.filter_chain.proofs.Marks.{IsPlace-letting_go, IsPlace-losing, IsPlace-refilled}
use Rattle.filter_chain.specs.Chain.{Chain, EndsInSend, IsSound, kinds, octets_in}
use Rattle.filter_chain.specs.Effects.{changed_at, last_loses, passed}
use Rattle.filter_chain.specs.Place.{IsPlace, Place, gaining, letting_go, losing, refilled}
use Rattle.filter_chain.specs.Release.{is_overfilled_by, overfills_in}
use Rattle.filter_chain.specs.declared.fault.OfferFault.{OfferFault}
use Rattle.filter_chain.specs.declared.fault.OfferFault.TheVariants.{TooLarge}
use Rattle.proxy_config.specs.Ranges.{IsBetween}

pub places_sound : (chain : Chain) → IsSound chain → AreSound chain.places
places_sound chain sound = record { order = sound.order; few = sound.few; each = sound.each }

pub passed_sound : (places : List Place) (p n : ℕ) → overfills_in places (p + 1) n ≡ false → n ≤ length (octets_in places p) → AreSound places → AreSound (passed places p n)
passed_sound places p n free few sound =
    let let_go : AreSound (changed_at (letting_go n) p places) = changed_sound (letting_go n) (λ x. refl) places p (λ x e. IsPlace-letting_go n x) sound in
    let apart : p + 1 ≡ p → ⊥ = λ h. absurd (omega arith) in
    let same : overfills_in (changed_at (letting_go n) p places) (p + 1) n ≡ overfills_in places (p + 1) n =
    ap (λ (o : Option Place). option_map_or (is_overfilled_by n) o false) (place_at-changed_other (letting_go n) places p (p + 1) apart) in
    let all : length (take n (octets_in places p)) ≡ n = length-take-le n (octets_in places p) few in
    gaining_sound (changed_at (letting_go n) p places) (p + 1) (take n (octets_in places p))
    (ap (overfills_in (changed_at (letting_go n) p places) (p + 1)) all ∙ (same ∙ free)) let_go

pub fed_sound : (places : List Place) (octets : List ℕ) (n : ℕ) → n ≤ length octets → overfills_in places 1 n ≡ false → AreSound places → AreSound (changed_at (gaining (take n octets)) 1 places)
fed_sound places octets n few free sound =
    gaining_sound places 1 (take n octets) (ap (overfills_in places 1) (length-take-le n octets few) ∙ free) sound

pub loses_sound : (places : List Place) (n : ℕ) → AreSound places → AreSound (last_loses places n)
loses_sound places n sound = changed_sound (losing n) (λ x. refl) places (length places) (λ x e. IsPlace-losing n x) sound

refilled_kinds : (steps : ℕ) (places : List Place) → kinds (map (refilled steps) places) ≡ kinds places
refilled_kinds steps [] = refl
refilled_kinds steps (x ∷ places) = ap (λ ks. x.kind ∷ ks) (refilled_kinds steps places)

pub refilled_sound : (steps : ℕ) (places : List Place) → AreSound places → AreSound (map (refilled steps) places)
refilled_sound steps places sound = record {
  order = subst EndsInSend (sym (refilled_kinds steps places)) sound.order;
  few = subst (IsBetween 1 9) (sym (length-map places (refilled steps))) sound.few;
  each = All-map IsPlace (refilled steps) places
      (All-weaker IsPlace (λ x. IsPlace (refilled steps x)) (IsPlace-refilled steps) places sound.each);
}

-- nothing was overfilled where octets moved
pub free_if_ok : {T : Type 0} (r : Result T OfferFault) (over : Bool) → ((r ≡ Err TooLarge) ↔ IsTrue over) → OnOk r (over ≡ false)
free_if_ok (Ok x) true exactly = let e : Ok x ≡ Err TooLarge = exactly.1 refl in absurd cc
free_if_ok (Ok x) false exactly = refl
free_if_ok (Err e) over exactly = tt
