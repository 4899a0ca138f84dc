-- What is made of places, one at a time: their ways, their kinds and their bounds.
use Rattle.filter_chain.proofs.Changes.{changed_is, get-set_other}
use Rattle.filter_chain.specs.Effects.{changed_at, passed}
use Rattle.filter_chain.specs.Chain.{octets_in}
use Rattle.filter_chain.specs.Place.{Place, gaining, kind_of, letting_go, losing}
use Rattle.flow_rules.specs.Kinds.{Kind}
use Rattle.std.proofs.Common.{ap, arith, refl, subst, sym, ◌∙◌}
use Rattle.std.proofs.lemmas.List.{length-append, length-drop, length-take}
use Rattle.std.proofs.lemmas.Option.{none-some, same_Some}
use Rattle.std.specs.List.{AllByRecursion}
use Rattle.std.specs.Option.{option_map_or}
use Rattle.std.specs.Prelude.{List, None, Option, Some, [], drop, length, map, set, slice_get, suc, take, zero, ℕ, ◌*◌, ◌+◌, ◌++◌, ◌-◌, ◌<◌, ◌∷◌, ◌≡◌, ◌≤◌}
use Rattle.wire_flows.specs.Measure.{places_way}
use Rattle.wire_flows.specs.Sound.{IsWithin}

-- what an octet at the i-th place weighs
abbrev pub weight : List Place → ℕ → ℕ
weight [] i = 40
weight (x ∷ xs) zero = 40 + 20 * length xs
weight (x ∷ xs) (suc i) = weight xs i

pub set_way : (xs : List Place) (i : ℕ) (x y : Place) → slice_get xs i ≡ Some x → places_way (set xs i y) + weight xs i * length x.octets ≡ places_way xs + weight xs i * length y.octets
set_way [] i x y at = absurd (none-some x at)
set_way (z ∷ xs) zero x y at = sums (40 + 20 * length xs) (length y.octets) (length x.octets) (length z.octets) (places_way xs) (ap (λ (p : Place). length p.octets) (same_Some z x at))
  where
    sums : (k ly lx lz w : ℕ) → lz ≡ lx → (k * ly + w) + k * lx ≡ (k * lz + w) + k * ly
    sums k ly lx lz w e = subst (λ l. (k * ly + w) + k * lx ≡ (k * l + w) + k * ly) (sym e) (omega arith)
set_way (z ∷ xs) (suc i) x y at = sums ((40 + 20 * length xs) * length z.octets) (places_way (set xs i y)) (places_way xs) _ (length x.octets) (length y.octets) (same_length xs i y) (set_way xs i x y at)
  where
    same_length : (xs : List Place) (i : ℕ) (y : Place) → length (set xs i y) ≡ length xs
    same_length [] i y = refl
    same_length (x ∷ xs) zero y = refl
    same_length (x ∷ xs) (suc i) y = let rest = same_length xs i y in omega (arith, rest)

    sums : (h a b k lx ly : ℕ) → length (set xs i y) ≡ length xs → a + k * lx ≡ b + k * ly → ((40 + 20 * length (set xs i y)) * length z.octets + a) + k * lx ≡ ((40 + 20 * length xs) * length z.octets + b) + k * ly
    sums h a b k lx ly same e = subst (λ l. ((40 + 20 * l) * length z.octets + a) + k * lx ≡ ((40 + 20 * length xs) * length z.octets + b) + k * ly) (sym same) (omega (arith, e))

pub weight_set : (xs : List Place) (i j : ℕ) (y : Place) → weight (set xs i y) j ≡ weight xs j
weight_set [] i j y = refl
weight_set (x ∷ xs) zero zero y = refl
weight_set (x ∷ xs) zero (suc j) y = refl
weight_set (x ∷ xs) (suc i) zero y = ap (λ l. 40 + 20 * l) (same_length xs i y)
  where
    same_length : (xs : List Place) (i : ℕ) (y : Place) → length (set xs i y) ≡ length xs
    same_length [] i y = refl
    same_length (x ∷ xs) zero y = refl
    same_length (x ∷ xs) (suc i) y = let rest = same_length xs i y in omega (arith, rest)
weight_set (x ∷ xs) (suc i) (suc j) y = weight_set xs i j y

pub weight_next : (xs : List Place) (i : ℕ) (y : Place) → slice_get xs (suc i) ≡ Some y → weight xs i ≡ weight xs (suc i) + 20
weight_next [] i y at = absurd (none-some y at)
weight_next (x ∷ []) zero y at = absurd (none-some y at)
weight_next (x ∷ z ∷ zs) zero y at = omega arith
weight_next (x ∷ xs) (suc i) y at = weight_next xs i y at

pub weight_last : (xs : List Place) (i : ℕ) → suc i ≡ length xs → weight xs i ≡ 40
weight_last [] i e = refl
weight_last (x ∷ []) zero e = refl
weight_last (x ∷ z ∷ zs) zero e = absurd (omega (arith, e))
weight_last (x ∷ xs) (suc i) e = weight_last xs i (omega (arith, e))

-- ---- a move from one place to the next
pub passed_is : (places : List Place) (i n : ℕ) (x y : Place) → slice_get places i ≡ Some x → slice_get places (suc i) ≡ Some y
    → passed places (suc i) n ≡ set (set places i (letting_go n x)) (suc i) (gaining (take n x.octets) y)
passed_is places i n x y at next =
    let one : suc i + 1 ≡ suc (suc i) = omega arith in
    let octets : octets_in places (suc i) ≡ x.octets = ap (λ (o : Option Place). option_map_or (λ place. place.octets) o []) at in
    let first = changed_is (letting_go n) places i x at in
    let there = get-set_other places i (suc i) (letting_go n x) (λ e. absurd (apart i e)) ∙ next in
    (λ j. changed_at (gaining (take n (octets j))) (one j) (first j)) ∙ changed_is (gaining (take n x.octets)) (set places i (letting_go n x)) (suc i) y there
  where
    apart : (i : ℕ) → suc i ≡ i → ⊥
    apart i e = absurd (omega (arith, e))

pub passed_way : (places : List Place) (i n : ℕ) (x y : Place) → slice_get places i ≡ Some x → slice_get places (suc i) ≡ Some y → n ≤ length x.octets
    → places_way (passed places (suc i) n) + 20 * n ≡ places_way places
passed_way places i n x y at next few =
    let mid = set places i (letting_go n x) in
    let there : slice_get mid (suc i) ≡ Some y = get-set_other places i (suc i) (letting_go n x) (λ e. absurd (apart i e)) ∙ next in
    let first = set_way places i x (letting_go n x) at in
    let second = set_way mid (suc i) y (gaining (take n x.octets) y) there in
    ap (λ ps. places_way ps + 20 * n) (passed_is places i n x y at next)
    ∙ sums (weight places (suc i)) (weight places i) (weight mid (suc i)) (length x.octets) (length (drop n x.octets)) n (length y.octets) (length (y.octets ++ take n x.octets)) (places_way places) (places_way mid)
    (places_way (set mid (suc i) (gaining (take n x.octets) y)))
    (weight_next places i y next) (weight_set places i (suc i) (letting_go n x)) (length-drop n x.octets) (length-append y.octets (take n x.octets) ∙ ap (λ l. length y.octets + l) (taken (length x.octets) n x.octets refl few)) few first second
  where
    apart : (i : ℕ) → suc i ≡ i → ⊥
    apart i e = absurd (omega (arith, e))

    taken : (l n : ℕ) (xs : List ℕ) → l ≡ length xs → n ≤ l → length (take n xs) ≡ n
    taken l n xs e few = omega (arith, length-take n xs, e, few)

    sums : (w1 w0 w1' lx d n ly g p0 p1 p2 : ℕ) → w0 ≡ w1 + 20 → w1' ≡ w1 → d ≡ lx - n → g ≡ ly + n → n ≤ lx → p1 + w0 * lx ≡ p0 + w0 * d → p2 + w1' * ly ≡ p1 + w1' * g → p2 + 20 * n ≡ p0
    sums w1 w0 w1' lx d n ly g p0 p1 p2 e0 e1 ed eg few f s =
        let whole : lx ≡ d + n = omega (arith, ed, few) in
        let f' : p1 + (w1 + 20) * (d + n) ≡ p0 + (w1 + 20) * d = (λ i. p1 + (sym e0 i) * (sym whole i)) ∙ (f ∙ (λ i. p0 + (e0 i) * d)) in
        let s' : p2 + w1 * ly ≡ p1 + w1 * (ly + n) = (λ i. p2 + (sym e1 i) * ly) ∙ (s ∙ (λ i. p1 + (e1 i) * (eg i))) in
        omega (arith, f', s')

-- ---- octets from the receive buffer come to the first place
pub gained_way : (places : List Place) (x : Place) (octets : List ℕ) → slice_get places zero ≡ Some x
    → places_way (changed_at (gaining octets) 1 places) + 20 * length octets ≡ places_way places + (40 + 20 * length places) * length octets
gained_way places x octets at =
    ap (λ ps. places_way ps + 20 * length octets) (changed_is (gaining octets) places zero x at)
    ∙ sums (weight places zero) (length places) (length x.octets) (length octets) (length (x.octets ++ octets)) (places_way places) (places_way (set places zero (gaining octets x)))
    (first places x at) (length-append x.octets octets) (set_way places zero x (gaining octets x) at)
  where
    first : (places : List Place) (x : Place) → slice_get places zero ≡ Some x → 40 + 20 * length places ≡ weight places zero + 20
    first [] x at = absurd (none-some x at)
    first (z ∷ zs) x at = omega arith

    sums : (w k lx n g p0 p1 : ℕ) → 40 + 20 * k ≡ w + 20 → g ≡ lx + n → p1 + w * lx ≡ p0 + w * g → p1 + 20 * n ≡ p0 + (40 + 20 * k) * n
    sums w k lx n g p0 p1 e eg s =
        let s' : p1 + w * lx ≡ p0 + w * (lx + n) = s ∙ (λ i. p0 + w * (eg i)) in
        let t : p1 + 20 * n ≡ p0 + (w + 20) * n = omega (arith, s') in
        t ∙ (λ i. p0 + (sym e i) * n)

-- ---- octets of the last place are framed
pub lost_way : (places : List Place) (i n : ℕ) (x : Place) → suc i ≡ length places → slice_get places i ≡ Some x → n ≤ length x.octets
    → places_way (changed_at (losing n) (length places) places) + 40 * n ≡ places_way places
lost_way places i n x last at few =
    ap (λ k. places_way (changed_at (losing n) k places) + 40 * n) (sym last)
    ∙ (ap (λ ps. places_way ps + 40 * n) (changed_is (losing n) places i x at)
    ∙ sums (weight places i) (length x.octets) (length (drop n x.octets)) n (places_way places) (places_way (set places i (losing n x))) (weight_last places i last) (length-drop n x.octets) few (set_way places i x (losing n x) at))
  where
    sums : (w lx d n p0 p1 : ℕ) → w ≡ 40 → d ≡ lx - n → n ≤ lx → p1 + w * lx ≡ p0 + w * d → p1 + 40 * n ≡ p0
    sums w lx d n p0 p1 e ed few s =
        let s' : p1 + 40 * lx ≡ p0 + 40 * d = (λ i. p1 + (sym e i) * lx) ∙ (s ∙ (λ i. p0 + (e i) * d)) in
        omega (arith, s', ed, few)

-- ---- kinds and bounds
pub kinds_set : (places : List Place) (i : ℕ) (x y : Place) → slice_get places i ≡ Some x → y.kind ≡ x.kind → map {B = Kind} (λ place. kind_of place.kind) (set places i y) ≡ map (λ place. kind_of place.kind) places
kinds_set [] i x y at same = refl
kinds_set (z ∷ places) zero x y at same = ap (λ k. kind_of k ∷ map (λ place. kind_of place.kind) places) (same ∙ ap (λ (p : Place). p.kind) (sym (same_Some z x at)))
kinds_set (z ∷ places) (suc i) x y at same = ap (λ ks. kind_of z.kind ∷ ks) (kinds_set places i x y at same)

pub all_set : (P : Place → Type 0) (places : List Place) (i : ℕ) (y : Place) → AllByRecursion P places → P y → AllByRecursion P (set places i y)
all_set P [] i y all is = tt
all_set P (z ∷ places) zero y all is = (is, all.1)
all_set P (z ∷ places) (suc i) y all is = (all.0, all_set P places i y all.1 is)

pub all_get : (P : Place → Type 0) (places : List Place) (i : ℕ) (x : Place) → AllByRecursion P places → slice_get places i ≡ Some x → P x
all_get P [] i x all at = absurd (none-some x at)
all_get P (z ∷ places) zero x all at = subst P (same_Some z x at) all.0
all_get P (z ∷ places) (suc i) x all at = all_get P places i x all.1 at
