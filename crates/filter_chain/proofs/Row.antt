-- A row of stages, and the places that they are seen as.
use Rattle.std.proofs.Common.{◌≡◌, ◌+◌, ◌-◌, ◌<◌, ◌≤◌, ◌++◌, ◌∙◌, ℕ, suc, List, [], length, take, drop, false, refl, sym, ap, arith}
use Rattle.std.proofs.Math.ListN.{get_or, set}
use Rattle.std.proofs.Math.Numerals.{add-one}
use Rattle.std.proofs.lemmas.List.{get_or-drop, get_or-take, length-set, length-take-le, map-set, set-append_left, set-append_right, take-append-drop}
use Rattle.std.proofs.lemmas.Option.{slice_get-get_or, slice_get-map}
use Rattle.std.specs.Option.{option_map, option_map_or}
use Rattle.std.specs.Prelude.{Option, Some, slice_get}
use Rattle.filter_chain.specs.Chain.{above_in, octets_in, place_at}
use Rattle.filter_chain.specs.Effects.{changed_at, passed}
use Rattle.filter_chain.specs.Place.{Place, gaining, letting_go}
use Rattle.filter_chain.specs.Stage.{place_of, places_of}
use Rattle.filter_chain.specs.declared.stage.Stage.{Stage}
use Rattle.filter_chain.proofs.Changes.{changed_is, place_at-changed_other}

-- the stage at an index, as a place
seen_at : (stages : List Stage) (i : ℕ) (d : Stage) → i < length stages → slice_get (places_of stages) i ≡ Some (place_of (get_or stages i d))
seen_at stages i d within = slice_get-map place_of stages i ∙ ap (option_map place_of) (slice_get-get_or stages i d within)

pub stage_place : (stages : List Stage) (i p : ℕ) (d : Stage) → p ≡ i + 1 → i < length stages → place_at (places_of stages) p ≡ Some (place_of (get_or stages i d))
stage_place stages i p d e within = ap (place_at (places_of stages)) (e ∙ add-one i) ∙ seen_at stages i d within

pub stage_octets : (stages : List Stage) (i p : ℕ) (d : Stage) → p ≡ i + 1 → i < length stages → octets_in (places_of stages) p ≡ (get_or stages i d).buffer.octets
stage_octets stages i p d e within = ap (λ (o : Option Place). option_map_or (λ place. place.octets) o []) (stage_place stages i p d e within)

pub stage_above : (stages : List Stage) (i p : ℕ) (d : Stage) → p ≡ i + 1 → i < length stages → above_in (places_of stages) p ≡ (get_or stages i d).buffer.above
stage_above stages i p d e within = ap (λ (o : Option Place). option_map_or (λ place. place.above) o false) (stage_place stages i p d e within)

-- a place that is there, after a change of it
changed_as : (f : Place → Place) (places : List Place) (i p : ℕ) (x y : Place) → p ≡ i + 1 → slice_get places i ≡ Some x → y ≡ f x → set places i y ≡ changed_at f p places
changed_as f places i p x y e at to =
    ap (set places i) to ∙ (sym (changed_is f places i x at) ∙ ap (λ q. changed_at f q places) (sym (e ∙ add-one i)))

-- a stage that is changed, as a change of its place
pub stage_changed : (f : Place → Place) (stages : List Stage) (i p : ℕ) (d t : Stage) → p ≡ i + 1 → i < length stages → place_of t ≡ f (place_of (get_or stages i d)) → places_of (set stages i t) ≡ changed_at f p (places_of stages)
stage_changed f stages i p d t e within to =
    map-set place_of stages i t ∙ changed_as f (places_of stages) i p (place_of (get_or stages i d)) (place_of t) e (seen_at stages i d within) to

-- two parts of a row, each with one stage stored
pub two_stored : (stages front back : List Stage) (p : ℕ) (s t : Stage) → front ≡ take p stages → back ≡ drop p stages → 1 ≤ p → p < length stages → set front (p - 1) s ++ set back 0 t ≡ set (set stages (p - 1) s) p t
two_stored stages front back p s t f b first last =
    let whole : front ++ back ≡ stages = ap (λ xs. xs ++ back) f ∙ (ap (λ ys. take p stages ++ ys) b ∙ take-append-drop p stages) in
    let len : length front ≡ p = ap length f ∙ length-take-le p stages (omega arith) in
    let front_len : length (set front (p - 1) s) ≡ p = length-set front (p - 1) s ∙ len in
    let one : set stages (p - 1) s ≡ set front (p - 1) s ++ back =
    ap (λ xs. set xs (p - 1) s) (sym whole) ∙ set-append_left front back (p - 1) s (omega arith) in
    let zero_on : p - p ≡ 0 = omega arith in
    let two : set (set front (p - 1) s ++ back) p t ≡ set front (p - 1) s ++ set back 0 t =
    set-append_right (set front (p - 1) s) back p p t front_len (omega arith) ∙ ap (λ k. set front (p - 1) s ++ set back k t) zero_on in
    sym (ap (λ xs. set xs p t) one ∙ two)

-- the stages of the two parts
pub front_stage : (stages front : List Stage) (p : ℕ) (d : Stage) → front ≡ take p stages → 1 ≤ p → get_or front (p - 1) d ≡ get_or stages (p - 1) d
front_stage stages front p d f first = ap (λ xs. get_or xs (p - 1) d) f ∙ get_or-take p stages (p - 1) d (omega arith)

pub back_stage : (stages back : List Stage) (p : ℕ) (d : Stage) → back ≡ drop p stages → get_or back 0 d ≡ get_or stages p d
back_stage stages back p d b =
    let on : p + 0 ≡ p = omega arith in
    ap (λ xs. get_or xs 0 d) b ∙ (get_or-drop p stages 0 d ∙ ap (λ k. get_or stages k d) on)

-- a stage let octets go to the next
pub passed_places : (stages : List Stage) (p n : ℕ) (d e s t : Stage) → 1 ≤ p → p < length stages
    → place_of s ≡ letting_go n (place_of (get_or stages (p - 1) d))
    → place_of t ≡ gaining (take n (get_or stages (p - 1) d).buffer.octets) (place_of (get_or stages p e))
    → places_of (set (set stages (p - 1) s) p t) ≡ passed (places_of stages) p n
passed_places stages p n d e s t first last let_go gains =
    let before : p ≡ (p - 1) + 1 = omega arith in
    let one : places_of (set stages (p - 1) s) ≡ changed_at (letting_go n) p (places_of stages) =
    stage_changed (letting_go n) stages (p - 1) p d s before (omega arith) let_go in
    let next : p + 1 ≡ suc p = add-one p in
    let apart : p + 1 ≡ p → ⊥ = λ h. absurd (omega arith) in
    let at : slice_get (changed_at (letting_go n) p (places_of stages)) p ≡ Some (place_of (get_or stages p e)) =
    ap (place_at (changed_at (letting_go n) p (places_of stages))) (sym next)
    ∙ (place_at-changed_other (letting_go n) (places_of stages) p (p + 1) apart ∙ stage_place stages p (p + 1) e refl last) in
    let moved : take n (get_or stages (p - 1) d).buffer.octets ≡ take n (octets_in (places_of stages) p) =
    ap (take n) (sym (stage_octets stages (p - 1) p d before (omega arith))) in
    let gained : place_of t ≡ gaining (take n (octets_in (places_of stages) p)) (place_of (get_or stages p e)) =
    gains ∙ ap (λ octets. gaining octets (place_of (get_or stages p e))) moved in
    map-set place_of (set stages (p - 1) s) p t
    ∙ (ap (λ ps. set ps p (place_of t)) one
    ∙ changed_as (gaining (take n (octets_in (places_of stages) p))) (changed_at (letting_go n) p (places_of stages)) p (p + 1) (place_of (get_or stages p e)) (place_of t) refl at gained)
