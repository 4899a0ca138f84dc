-- A row of which the first stages are refilled.
use Rattle.std.proofs.Common.{◌≡◌, ◌+◌, ◌<◌, ◌++◌, ◌∙◌, ℕ, suc, zero, List, [], ◌∷◌, length, map, take, drop, refl, sym, ap, arith}
use Rattle.std.proofs.Math.ListN.{get_or, get_or-map, set}
use Rattle.std.proofs.Math.Numerals.{add-one}
use Rattle.std.proofs.lemmas.List.{length-map, map-set}
use Rattle.filter_chain.specs.Place.{Place}
use Rattle.filter_chain.specs.Stage.{place_of, places_of}
use Rattle.filter_chain.specs.declared.stage.Stage.{Stage}

abbrev pub partly : (Place → Place) → ℕ → List Place → List Place
partly f i places = map f (take i places) ++ drop i places

partly-step : (f : Place → Place) (places : List Place) (i : ℕ) (d : Place) → i < length places → set (partly f i places) i (f (get_or places i d)) ≡ partly f (suc i) places
partly-step f [] i d h = absurd (omega arith)
partly-step f (x ∷ places) zero d h = refl
partly-step f (x ∷ places) (suc i) d h = ap (λ ps. f x ∷ ps) (partly-step f places i d (omega arith))

get_or-partly : (f : Place → Place) (places : List Place) (i : ℕ) (d : Place) → get_or (partly f i places) i d ≡ get_or places i d
get_or-partly f [] zero d = refl
get_or-partly f [] (suc i) d = refl
get_or-partly f (x ∷ places) zero d = refl
get_or-partly f (x ∷ places) (suc i) d = get_or-partly f places i d

-- one more stage
pub refill_step : (f : Place → Place) (first now : List Stage) (i : ℕ) (d new : Stage) → length now ≡ length first → i < length now
    → places_of now ≡ partly f i (places_of first) → place_of new ≡ f (place_of (get_or now i d))
    → places_of (set now i new) ≡ partly f (i + 1) (places_of first)
refill_step f first now i d new same within is to =
    let len : length (places_of first) ≡ length first = length-map first place_of in
    let was : place_of (get_or now i d) ≡ get_or (places_of first) i (place_of d) =
    sym (get_or-map place_of now i d) ∙ (ap (λ ps. get_or ps i (place_of d)) is ∙ get_or-partly f (places_of first) i (place_of d)) in
    map-set place_of now i new
    ∙ (ap (set (places_of now) i) (to ∙ ap f was)
    ∙ (ap (λ ps. set ps i (f (get_or (places_of first) i (place_of d)))) is
    ∙ (partly-step f (places_of first) i (place_of d) (omega arith) ∙ ap (λ k. partly f k (places_of first)) (sym (add-one i)))))
