-- Nothing goes next behind the end of a flow.
use Rattle.exchange_core.specs.Effects.{body_framed}
use Rattle.exchange_core.specs.Flow.{Flow, last_place, octets_in, send}
use Rattle.exchange_core.specs.Message.{head_waits}
use Rattle.exchange_core.specs.Units.{carried, carries_end, empty_before, ends_after, next_unit}
use Rattle.filter_chain.proofs.Changes.{place_at-changed_same}
use Rattle.filter_chain.specs.Chain.{octets_in as octets_among, place_at}
use Rattle.filter_chain.specs.Effects.{changed_at}
use Rattle.filter_chain.specs.Place.{Place, losing}
use Rattle.flow_rules.specs.declared.unit.Unit.{Unit as NextUnit}
use Rattle.flow_rules.specs.declared.unit.Unit.TheVariants.{Nothing}
use Rattle.std.proofs.Common.{ap, arith, refl, sym, ◌∙◌}
use Rattle.std.proofs.lemmas.Bool.Decides.{nat_tests}
use Rattle.std.proofs.lemmas.List.{length-drop, length-set}
use Rattle.std.specs.Option.{option_map, option_map_or}
use Rattle.std.specs.Prelude.{Bool, List, None, Option, Some, [], false, if◌then◌else◌, length, min, nat_lt, not, slice_get, slice_set, suc, true, zero, ℕ, ℤ, ◌&&◌, ◌-◌, ◌||◌, ◌≡◌, ◌≤◌}

-- ---- what a frame leaves in the send buffer
changed_length : (f : Place → Place) (places : List Place) (p : ℕ) → length (changed_at f p places) ≡ length places
changed_length f places zero = refl
changed_length f places (suc i) = by_place (slice_get places i)
  where
    by_place : (o : Option Place) → length (option_map_or (λ place. slice_set places i (f place)) o places) ≡ length places
    by_place None = refl
    by_place (Some x) = length-set places i (f x)

lost : (n : ℕ) (o : Option Place) → length (option_map_or (λ place. place.octets) (option_map (losing n) o) []) ≡ length (option_map_or (λ place. place.octets) o []) - n
lost n None = omega arith
lost n (Some x) = length-drop n x.octets

module _ (n : ℕ) (last : Bool) (flow : Flow) where
  pub framed_last : last_place (body_framed n last flow) ≡ last_place flow
  framed_last = changed_length (losing n) flow.chain.places (last_place flow)

  lost_at : (p : ℕ) → last_place flow ≡ suc p → length (send (body_framed n last flow)) ≡ length (send flow) - n
  lost_at p is =
      ap (λ k. length (octets_in (body_framed n last flow) k)) (framed_last ∙ is)
      ∙ (ap (λ k. length (octets_among (changed_at (losing n) k flow.chain.places) (suc p))) is
      ∙ (ap (λ (o : Option Place). length (option_map_or (λ place. place.octets) o [])) (place_at-changed_same (losing n) flow.chain.places (suc p))
      ∙ (lost n (place_at flow.chain.places (suc p)) ∙ sym (ap (λ k. length (octets_in flow k) - n) is))))

  pub framed_left : 1 ≤ last_place flow → length (send (body_framed n last flow)) ≡ length (send flow) - n
  framed_left some = lost_at (last_place flow - 1) (omega (arith, some))

-- ---- behind the end
both : (a b : Bool) → (a && b) ≡ true → (a ≡ true) × (b ≡ true)
both true b e = (refl, e)
both false b e = absurd cc

or_true : (a : Bool) → (a || true) ≡ true
or_true true = refl
or_true false = refl

picks : (h c e : Bool) (x y z : NextUnit) → h ≡ false → c ≡ false → e ≡ true → (if h then x else if c then y else if e then Nothing else z) ≡ Nothing
picks h c e x y z p q r = λ i. if p i then x else if q i then y else if r i then Nothing else z

none_carried : (q n : ℕ) → n ≡ 0 → nat_lt 0 (min q n) ≡ false
none_carried q n e = grind (arith, nat_tests)

-- a frame that carries the end takes all of the send buffer, and comes behind all other places
pub record IsEnd (n : ℕ) (flow : Flow) : Type 0 where
  pub ended : flow.message.ended ≡ true
  pub before : empty_before flow (last_place flow) ≡ true
  pub all : length (send flow) ≡ n

pub end_is : (n : ℕ) (flow : Flow) → carries_end n flow ≡ true → IsEnd n flow
end_is n flow e =
    let after = both (ends_after n flow) _ e in
    let came = both flow.message.ended _ after.0 in
    let left = both (empty_before flow (last_place flow)) _ came.1 in
    record { ended = came.0; before = left.0; all = grind (arith, nat_tests, left.1) }

pub nothing_behind : (room : ℤ) (frame n : ℕ) (flow : Flow) → 1 ≤ last_place flow → head_waits flow.message ≡ false → carries_end n flow ≡ true
    → next_unit room frame (body_framed n true flow) ≡ Nothing
nothing_behind room frame n flow some headed ends =
    let none : length (send (body_framed n true flow)) ≡ 0 = omega (arith, framed_left n true flow some, (end_is n flow ends).all) in
    let few : nat_lt 0 (carried room frame (body_framed n true flow)) ≡ false = none_carried _ _ none in
    picks _ _ _ _ _ _ headed few (ap (λ b. not (ends_after 0 (body_framed n true flow)) || b) (or_true flow.message.end_framed) ∙ or_true (not (ends_after 0 (body_framed n true flow))))
