-- A head waits exactly for the Holds to which the body hasn't come whole.
use Rattle.std.proofs.Common.{◌≡◌, ◌+◌, ◌∙◌, ◌&&◌, ℕ, suc, zero, List, [], ◌∷◌, Bool, true, false, refl, sym, ap, arith}
use Rattle.std.specs.Prelude.{Some, slice_get, not, ◌||◌}
use Rattle.filter_chain.specs.Chain.{Chain, place_at}
use Rattle.filter_chain.specs.Place.{Place, is_hold}
use Rattle.filter_chain.specs.Release.{head_may_go, holds_filled, is_whole_at}

and_false : (b : Bool) → (b && false) ≡ false
and_false true = refl
and_false false = refl

first_waits : (chain : Chain) (p : ℕ) (z x : Place) (places : List Place) → Some z ≡ Some x → is_hold x.kind ≡ true → is_whole_at chain p ≡ false → holds_filled chain p (z ∷ places) ≡ false
first_waits chain p z x places e hold whole =
    let same : z ≡ x = cc in
    ap (λ (place : Place). (not (is_hold place.kind) || is_whole_at chain p) && holds_filled chain (p + 1) places) same
    ∙ (ap (λ b. (not b || is_whole_at chain p) && holds_filled chain (p + 1) places) hold
    ∙ ap (λ b. b && holds_filled chain (p + 1) places) whole)

one_waits : (chain : Chain) (p : ℕ) (places : List Place) (i : ℕ) (x : Place) → slice_get places i ≡ Some x → is_hold x.kind ≡ true → is_whole_at chain (p + i) ≡ false → holds_filled chain p places ≡ false
one_waits chain p [] i x e hold whole = cc
one_waits chain p (z ∷ places) zero x e hold whole =
    let here : p + 0 ≡ p = omega arith in
    first_waits chain p z x places e hold (ap (is_whole_at chain) (sym here) ∙ whole)
one_waits chain p (z ∷ places) (suc i) x e hold whole =
    let there : (p + 1) + i ≡ p + suc i = omega arith in
    ap (λ b. (not (is_hold z.kind) || is_whole_at chain p) && b) (one_waits chain (p + 1) places i x e hold (ap (is_whole_at chain) there ∙ whole))
    ∙ and_false (not (is_hold z.kind) || is_whole_at chain p)

filled_if : (hold whole : Bool) → (hold ≡ true → whole ≡ true) → (not hold || whole) ≡ true
filled_if true whole h = h refl
filled_if false whole h = refl

all_filled : (chain : Chain) (p : ℕ) (places : List Place) → ((i : ℕ) (x : Place) → slice_get places i ≡ Some x → is_hold x.kind ≡ true → is_whole_at chain (p + i) ≡ true) → holds_filled chain p places ≡ true
all_filled chain p [] all = refl
all_filled chain p (z ∷ places) all =
    let here : p ≡ p + 0 = omega arith in
    ap (λ b. b && holds_filled chain (p + 1) places)
    (filled_if (is_hold z.kind) (is_whole_at chain p) (λ hold. ap (is_whole_at chain) here ∙ all 0 z refl hold))
    ∙ all_filled chain (p + 1) places
    (λ i x e hold. let there : (p + 1) + i ≡ p + suc i = omega arith in ap (is_whole_at chain) there ∙ all (suc i) x e hold)

pub head_waits : (chain : Chain) (p : ℕ) (place : Place) → place_at chain.places p ≡ Some place → is_hold place.kind ≡ true → is_whole_at chain p ≡ false → head_may_go chain ≡ false
head_waits chain zero place e hold whole = cc
head_waits chain (suc i) place e hold whole =
    let here : 1 + i ≡ suc i = omega arith in
    one_waits chain 1 chain.places i place e hold (ap (is_whole_at chain) here ∙ whole)

pub head_goes : (chain : Chain) → ((p : ℕ) (place : Place) → place_at chain.places p ≡ Some place → is_hold place.kind ≡ true → is_whole_at chain p ≡ true) → head_may_go chain ≡ true
head_goes chain all =
    all_filled chain 1 chain.places
    (λ i x e hold. let here : 1 + i ≡ suc i = omega arith in ap (is_whole_at chain) here ∙ all (suc i) x e hold)
