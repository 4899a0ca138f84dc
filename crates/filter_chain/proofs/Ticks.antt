-- Two ticks do what the later one alone does.
use Rattle.std.proofs.Common.{◌≡◌, ◌+◌, ◌-◌, ◌*◌, ◌≤◌, ◌∙◌, ℕ, List, [], ◌∷◌, map, min, refl, ap, arith}
use Rattle.filter_chain.specs.Chain.{Chain}
use Rattle.filter_chain.specs.Effects.{ticked, whole_steps}
use Rattle.filter_chain.specs.Place.{Place, rate_of, refilled}

-- filled twice
fills_add : (rate tokens gained more all : ℕ) → gained + more ≡ all → min rate (min rate (tokens + gained) + more) ≡ min rate (tokens + all)
fills_add rate tokens gained more all e = omega arith

spread : (rate a b : ℕ) → rate * a + rate * b ≡ rate * (a + b)
spread rate a b = grind arith

refilled_twice : (first more : ℕ) (place : Place) → refilled more (refilled first place) ≡ refilled (first + more) place
refilled_twice first more place =
    let rate : ℕ = rate_of place.kind in
    ap (λ tokens. record place { tokens = tokens })
    (fills_add (rate_of place.kind) place.tokens (rate_of place.kind * first) (rate_of place.kind * more) (rate_of place.kind * (first + more)) (spread (rate_of place.kind) first more))

all_twice : (first more : ℕ) (places : List Place) → map (refilled more) (map (refilled first) places) ≡ map (refilled (first + more)) places
all_twice first more [] = refl
all_twice first more (place ∷ places) = ap (λ p. p ∷ map (refilled more) (map (refilled first) places)) (refilled_twice first more place)
    ∙ ap (λ ps. refilled (first + more) place ∷ ps) (all_twice first more places)

-- the steps of two spans are those of both
steps_add : (started time now later : ℕ) → started ≤ time → time ≤ now → now ≤ later
    → (whole_steps started now - whole_steps started time) + (whole_steps started later - whole_steps started now) ≡ whole_steps started later - whole_steps started time
steps_add started time now later a b c = omega arith

pub two_ticks : (chain : Chain) (now later : ℕ) → chain.started ≤ chain.time → chain.time ≤ now → now ≤ later → ticked (ticked chain now) later ≡ ticked chain later
two_ticks chain now later begun on after =
    ap (λ places. record chain { time = later; places = places })
    (all_twice (whole_steps chain.started now - whole_steps chain.started chain.time) (whole_steps chain.started later - whole_steps chain.started now) chain.places
    ∙ ap (λ steps. map (refilled steps) chain.places) (steps_add chain.started chain.time now later begun on after))
