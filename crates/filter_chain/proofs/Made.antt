-- The places of a list of filters.
use Rattle.std.proofs.Common.{◌≡◌, ◌≢◌, ◌+◌, ◌<◌, ◌≤◌, ◌++◌, ◌∙◌, ℕ, List, [], ◌∷◌, length, take, refl, sym, ap, arith, All, length-append}
use Rattle.std.proofs.Math.ListN.{get_or}
use Rattle.std.proofs.Math.Numerals.{add-one}
use Rattle.std.proofs.Math.Seq.{take-suc}
use Rattle.std.proofs.lemmas.List.Elements.{All-cons, All-head, All-nil, All-tail}
use Rattle.std.proofs.lemmas.Option.{get_or_from_slice_get}
use Rattle.std.specs.Prelude.{Some, slice_get}
use Rattle.filter_chain.specs.Chain.{EndsInSend, IsSound, empty_chain, kinds, stages}
use Rattle.filter_chain.specs.Place.{IsPlace, Place, empty_place}
use Rattle.filter_chain.specs.declared.stage.StageKind.{StageKind}
use Rattle.filter_chain.specs.declared.stage.StageKind.TheVariants.{Hold, Meter, Send}
use Rattle.flow_rules.specs.declared.ids.FlowId.{FlowId}
use Rattle.proxy_config.specs.Ranges.{AreFilters, IsBetween, IsFilter}
use Rattle.proxy_config.specs.declared.routes.Filter.{Filter}
use Rattle.proxy_config.specs.declared.routes.Filter.TheVariants as filter

stages-append : (fs gs : List Filter) → stages (fs ++ gs) ≡ stages fs ++ stages gs
stages-append [] gs = refl
stages-append (filter.Pass ∷ fs) gs = stages-append fs gs
stages-append (filter.Hold limit ∷ fs) gs = ap (λ ps. empty_place Hold limit ∷ ps) (stages-append fs gs)
stages-append (filter.Meter limit rate ∷ fs) gs = ap (λ ps. empty_place (Meter rate) limit ∷ ps) (stages-append fs gs)

-- one more filter
pub stages_more : (fs : List Filter) (places : List Place) (i : ℕ) (x : Filter) → i < length fs → slice_get fs i ≡ Some x → places ≡ stages (take i fs) → places ++ stages (x ∷ []) ≡ stages (take (i + 1) fs)
stages_more fs places i x within at is =
    ap (λ ps. ps ++ stages (x ∷ [])) is
    ∙ sym (ap (λ k. stages (take k fs)) (add-one i)
    ∙ (ap stages (take-suc fs i x within) ∙ (stages-append (take i fs) (get_or fs i x ∷ []) ∙ ap (λ y. stages (take i fs) ++ stages (y ∷ [])) (get_or_from_slice_get fs i x x at))))

-- what is made so ends in a send buffer
ends_more : (kind : StageKind) (others : List StageKind) → kind ≢ Send → EndsInSend others → EndsInSend (kind ∷ others)
ends_more kind [] stage ends = absurd ends
ends_more kind (next ∷ others) stage ends = (stage, ends)

made_order : (fs : List Filter) (limit : ℕ) → EndsInSend (kinds (stages fs ++ empty_place Send limit ∷ []))
made_order [] limit = refl
made_order (filter.Pass ∷ fs) limit = made_order fs limit
made_order (filter.Hold most ∷ fs) limit = ends_more Hold _ (λ e. cc) (made_order fs limit)
made_order (filter.Meter most rate ∷ fs) limit = ends_more (Meter rate) _ (λ e. cc) (made_order fs limit)

-- has a place for each filter at most
few_made : (fs : List Filter) → length (stages fs) ≤ length fs
few_made [] = omega arith
few_made (filter.Pass ∷ fs) = let few : length (stages fs) ≤ length fs = few_made fs in omega arith
few_made (filter.Hold most ∷ fs) = let few : length (stages fs) ≤ length fs = few_made fs in omega arith
few_made (filter.Meter most rate ∷ fs) = let few : length (stages fs) ≤ length fs = few_made fs in omega arith

-- and each is as it should be
IsPlace-send : (limit : ℕ) → IsPlace (empty_place Send limit)
IsPlace-send limit = record { high = λ e. cc; low = λ e some. omega arith; tokens = omega arith; kind = tt }

IsPlace-hold : (limit : ℕ) → 0 < limit → IsPlace (empty_place Hold limit)
IsPlace-hold limit some = record { high = λ e. cc; low = λ e h. omega arith; tokens = omega arith; kind = (refl, omega arith, some) }

IsPlace-meter : (limit rate : ℕ) → 0 < limit → IsPlace (empty_place (Meter rate) limit)
IsPlace-meter limit rate some = record { high = λ e. cc; low = λ e h. omega arith; tokens = omega arith; kind = some }

made_each : (fs : List Filter) (limit : ℕ) → All IsFilter fs → All IsPlace (stages fs ++ empty_place Send limit ∷ [])
made_each [] limit all = All-cons IsPlace (empty_place Send limit) [] (IsPlace-send limit) (All-nil IsPlace)
made_each (filter.Pass ∷ fs) limit all = made_each fs limit (All-tail IsFilter filter.Pass fs all)
made_each (filter.Hold most ∷ fs) limit all =
    let range : IsBetween 1 16777216 most = All-head IsFilter (filter.Hold most) fs all in
    All-cons IsPlace (empty_place Hold most) _ (IsPlace-hold most (omega arith)) (made_each fs limit (All-tail IsFilter (filter.Hold most) fs all))
made_each (filter.Meter most rate ∷ fs) limit all =
    let range : IsBetween 1 16777216 most × IsBetween 1 16777216 rate = All-head IsFilter (filter.Meter most rate) fs all in
    All-cons IsPlace (empty_place (Meter rate) most) _ (IsPlace-meter most rate (omega arith)) (made_each fs limit (All-tail IsFilter (filter.Meter most rate) fs all))

pub empty_sound : (flow : FlowId) (fs : List Filter) (limit now quantum : ℕ) → AreFilters fs → IsBetween 16384 1048576 quantum → IsSound (empty_chain flow fs limit now quantum)
empty_sound flow fs limit now quantum filters range =
    let few : length (stages fs) ≤ length fs = few_made fs in
    let most : length fs ≤ 8 = filters.few in
    let one : length (stages fs ++ empty_place Send limit ∷ []) ≡ length (stages fs) + 1 = length-append (stages fs) (empty_place Send limit ∷ []) in
    record {
      order = made_order fs limit;
      few = (omega arith, omega arith);
      each = made_each fs limit filters.each;
      quantum = range;
      clock = omega arith;
    }
