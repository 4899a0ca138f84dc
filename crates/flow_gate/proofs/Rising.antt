-- The stands of a line in the order of their places: those before a place, those between two, and the flows that stand there.
use Rattle.flow_gate.proofs.Places.{between_below, between_no, between_yes, filter_all, filter_none, less_cmp, weaken}
use Rattle.flow_gate.specs.Line.{IsBefore, is_between, places_of}
use Rattle.flow_gate.specs.declared.stands.Stand.{Stand}
use Rattle.std.proofs.Common.{ap, arith, sym, ◌∙◌}
use Rattle.std.proofs.lemmas.Bool.{ltb-false, ltb-true}
use Rattle.std.proofs.lemmas.List.{append-nil, get_or-map, get_or_default, length-map, take-append-drop}
use Rattle.std.proofs.lemmas.List.Elements.{filter-append, recursion_from_All}
use Rattle.std.proofs.lemmas.List.Sorted.{IsPartitionedBy-ltb}
use Rattle.std.proofs.lemmas.Map.Keys.{below_from_sorted, non_decreasing_from_sorted, sorted_head, sorted_tail}
use Rattle.std.specs.List.{AllByRecursion, AllWithin}
use Rattle.std.specs.List.Sorted.{IsNonDecreasingBy, IsPartitionedBy, IsPartitionPoint, IsStrictlySortedBy}
use Rattle.std.specs.Ordering.{nat_cmp}
use Rattle.std.specs.Prelude.{Bool, List, [], drop, false, filter, length, nat_lt, slice_index_or, suc, take, true, zero, ℕ, ◌++◌, ◌-◌, ◌<◌, ◌∷◌, ◌≡◌, ◌≤◌}
use Rattle.std.specs.declared.cmp.Ordering.TheVariants.{Less}

abbrev pub Rises : List Stand → Type 0
Rises ss = IsStrictlySortedBy nat_cmp (places_of ss)

-- ---- the order of the places
-- all later places are higher
pub later : (s : Stand) (ss : List Stand) → Rises (s ∷ ss) → AllByRecursion (λ t. s.place < t.place) ss
later s ss rises = from_places ss (sorted_head nat_cmp s.place (places_of ss) rises)
  where
    from_places : (ts : List Stand) → AllByRecursion (λ q. nat_cmp s.place q ≡ Less) (places_of ts) → AllByRecursion (λ t. s.place < t.place) ts
    from_places [] all = tt
    from_places (t ∷ ts) all = (less_cmp s.place t.place all.0, from_places ts all.1)

pub Rises-tail : (s : Stand) (ss : List Stand) → Rises (s ∷ ss) → Rises ss
Rises-tail s ss rises = sorted_tail nat_cmp s.place (places_of ss) rises

pub Rises-drop : (i : ℕ) (ss : List Stand) → Rises ss → Rises (drop i ss)
Rises-drop zero ss rises = rises
Rises-drop (suc i) [] rises = rises
Rises-drop (suc i) (s ∷ ss) rises = Rises-drop i ss (Rises-tail s ss rises)

pub non_decreasing : (ss : List Stand) → Rises ss → IsNonDecreasingBy (λ s. s.place) ss
non_decreasing ss rises i j d le less =
    let low : slice_index_or (places_of ss) i d.place ≡ (slice_index_or ss i d).place = get_or-map (λ (s : Stand). s.place) ss i d d.place (omega arith) in
    let high : slice_index_or (places_of ss) j d.place ≡ (slice_index_or ss j d).place = get_or-map (λ (s : Stand). s.place) ss j d d.place less in
    let long : length (places_of ss) ≡ length ss = length-map ss (λ (s : Stand). s.place) in
    let along = non_decreasing_from_sorted (places_of ss) rises i j d.place le (omega (arith, long, less)) in
    omega (arith, along, low, high)

-- ---- the stands before a place
pub parted : (p : ℕ) (ss : List Stand) → Rises ss → IsPartitionedBy (λ s. nat_lt s.place p) ss
parted p ss rises = IsPartitionedBy-ltb (λ s. s.place) ss p (non_decreasing ss rises)

module _ (P Q : Stand → Type 0) where
  split : (i : ℕ) (ss : List Stand) → i ≤ length ss → AllWithin P ss 0 i → AllWithin Q ss i (length ss) → AllByRecursion P (take i ss) × AllByRecursion Q (drop i ss)
  split zero ss within front back = (tt, recursion_from_All Q ss (λ k d less. back k d (omega arith) less))
  split (suc i) [] within front back = (tt, tt)
  split (suc i) (s ∷ ss) within front back =
      let others = split i ss (omega arith) (λ k d low high. front (suc k) d (omega arith) (omega (arith, high))) (λ k d low high. back (suc k) d (omega (arith, low)) (omega (arith, high))) in
      ((front 0 s (omega arith) (omega arith), others.0), others.1)

-- what a search by halves finds
pub before_point : (p i : ℕ) (ss : List Stand) → i ≤ length ss → IsPartitionPoint (λ s. nat_lt s.place p ≡ true) (λ s. nat_lt s.place p ≡ false) ss i → IsBefore p i ss
before_point p i ss within point =
    let parts = split (λ s. nat_lt s.place p ≡ true) (λ s. nat_lt s.place p ≡ false) i ss within point.0 point.1 in
    record {
      within = within;
      before = weaken (take i ss) (λ s h. below s.place h) parts.0;
      after = weaken (drop i ss) (λ s h. above s.place h) parts.1;
    }
  where
    below : (q : ℕ) → nat_lt q p ≡ true → q < p
    below q h = ltb-true q p h

    above : (q : ℕ) → nat_lt q p ≡ false → p ≤ q
    above q h = ltb-false q p h

-- before the place of a stand lie those up to it
pub before_at : (p i : ℕ) (ss : List Stand) (d : Stand) → Rises ss → i < length ss → (slice_index_or ss i d).place ≡ p → IsBefore p i ss
before_at p i ss d rises less is =
    let parts = split (λ s. s.place < p) (λ s. p ≤ s.place) i ss (omega (arith, less)) front back in
    record { within = omega (arith, less); before = parts.0; after = parts.1 }
  where
    here : (e : Stand) → (slice_index_or ss i e).place ≡ p
    here e = ap (λ (s : Stand). s.place) (get_or_default ss i e d less) ∙ is

    front : AllWithin (λ s. s.place < p) ss 0 i
    front k e low high =
        let one : slice_index_or (places_of ss) k e.place ≡ (slice_index_or ss k e).place = get_or-map (λ (s : Stand). s.place) ss k e e.place (omega (arith, high, less)) in
        let other : slice_index_or (places_of ss) i e.place ≡ (slice_index_or ss i e).place = get_or-map (λ (s : Stand). s.place) ss i e e.place less in
        let long : length (places_of ss) ≡ length ss = length-map ss (λ (s : Stand). s.place) in
        let along = below_from_sorted (places_of ss) k i e.place rises high (omega (arith, long, less)) in
        omega (arith, along, one, other, here e)

    back : AllWithin (λ s. p ≤ s.place) ss i (length ss)
    back k e low high = let along = non_decreasing ss rises i k e low high in omega (arith, along, here e)

-- before a place that is above the last lie all
pub before_end : (p : ℕ) (ss : List Stand) (d : Stand) → Rises ss → 0 < length ss → (slice_index_or ss (length ss - 1) d).place < p → IsBefore p (length ss) ss
before_end p ss d rises some below =
    let parts = split (λ s. s.place < p) (λ s. p ≤ s.place) (length ss) ss (omega arith) front back in
    record { within = omega arith; before = parts.0; after = parts.1 }
  where
    front : AllWithin (λ s. s.place < p) ss 0 (length ss)
    front k e low high =
        let along = non_decreasing ss rises k (length ss - 1) e (omega (arith, high)) (omega (arith, some)) in
        let same : (slice_index_or ss (length ss - 1) e).place ≡ (slice_index_or ss (length ss - 1) d).place =
        ap (λ (s : Stand). s.place) (get_or_default ss (length ss - 1) e d (omega (arith, some))) in
        omega (arith, along, same, below)

    back : AllWithin (λ s. p ≤ s.place) ss (length ss) (length ss)
    back k e low high = absurd (omega (arith, low, high))

-- none lie before any in an empty line
pub before_none : (p : ℕ) (ss : List Stand) → length ss ≡ 0 → IsBefore p (length ss) ss
before_none p [] none = record { within = omega arith; before = tt; after = tt }
before_none p (s ∷ ss) none = absurd (omega (arith, none))

-- ---- the stands between two places
pub all-take : (P : Stand → Type 0) (i : ℕ) (ss : List Stand) → AllByRecursion P ss → AllByRecursion P (take i ss)
all-take P zero ss all = tt
all-take P (suc i) [] all = tt
all-take P (suc i) (s ∷ ss) all = (all.0, all-take P i ss all.1)

all-both : (P Q : Stand → Type 0) (ss : List Stand) → AllByRecursion P ss → AllByRecursion Q ss → AllByRecursion (λ s. P s × Q s) ss
all-both P Q [] p q = tt
all-both P Q (s ∷ ss) p q = ((p.0, q.0), all-both P Q ss p.1 q.1)

pub part_between : (from to i j : ℕ) (ss : List Stand) → IsBefore from i ss → IsBefore to j (drop i ss) → take j (drop i ss) ≡ filter (λ s. is_between from to s.place) ss
part_between from to i j ss low high =
    let late : List Stand = drop i ss in
    let test : Stand → Bool = λ s. is_between from to s.place in
    let early : filter test (take i ss) ≡ [] = filter_none test (take i ss) (weaken (take i ss) (λ s h. between_below from to s.place h) low.before) in
    let inside : filter test (take j late) ≡ take j late = filter_all test (take j late)
    (weaken (take j late) (λ s h. between_yes from to s.place h.0 h.1) (all-both (λ s. from ≤ s.place) (λ s. s.place < to) (take j late) (all-take (λ s. from ≤ s.place) j late low.after) high.before)) in
    let past : filter test (drop j late) ≡ [] = filter_none test (drop j late) (weaken (drop j late) (λ s h. between_no from to s.place h) high.after) in
    let whole : filter test ss ≡ filter test (take i ss) ++ (filter test (take j late) ++ filter test (drop j late)) =
    ap (filter test) (sym (take-append-drop i ss)) ∙ filter-append test (take i ss) late
    ∙ ap (λ ts. filter test (take i ss) ++ ts) (ap (filter test) (sym (take-append-drop j late)) ∙ filter-append test (take j late) (drop j late)) in
    sym (whole ∙ (λ k. early k ++ (inside k ++ past k)) ∙ append-nil (take j late))
