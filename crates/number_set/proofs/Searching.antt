-- What a search through numbers in order finds, and what it serves for.
use Rattle.std.proofs.Common.{ap, arith, inl, inr, refl, sym, ◌∙◌}
use Rattle.std.proofs.Math.ListN.{get_or}
use Rattle.std.proofs.lemmas.List.Sorted.{searched}
use Rattle.std.proofs.lemmas.Map.Keys.{below_from_sorted}
use Rattle.std.proofs.lemmas.Option.{slice_get-get_or, slice_get_past}
use Rattle.std.specs.BTreeMap.{is_at}
use Rattle.std.specs.BTreeSet.{insert_key}
use Rattle.std.specs.Borrow.{Bor}
use Rattle.std.specs.List.{find, insert, remove}
use Rattle.std.specs.List.Sorted.{IsBinarySearchResult, IsStrictlySortedBy}
use Rattle.std.specs.Option.{option_copied}
use Rattle.std.specs.Ordering.{match_ordering, nat_cmp}
use Rattle.std.specs.Prelude.{Bool, Err, IfSome, IsSome, List, MatchResult, None, Ok, Option, Result, Some, [], false, if◌then◌else◌, is_ok, length, nat_eq, nat_lt, slice_get, suc, take, true, zero, ℕ, ◌+◌, ◌++◌, ◌-◌, ◌<◌, ◌||◌, ◌↔◌, ◌∷◌, ◌≡◌, ◌≤◌}
use Rattle.std.specs.Set.{remove_key}
use Rattle.std.specs.declared.cmp.Ordering.TheVariants.{Greater, Less}
use Rattle.std.specs.Slice.{IsItemAt}
use Rattle.std.proofs.lemmas.Bool.Decides.{nat_tests}
use Rattle.number_set.proofs.Sorted.{has_other, marked_same}
use Rattle.number_set.proofs.Tests.{above_apart, at_apart, at_here, here, same_or_apart}
use Rattle.number_set.specs.NumberSet.{IsFoundAt, IsGapAt, Rises, first_above, has, marked}

-- ---- what comes or goes at the end
pub put_last : {X : Type 0} (xs : List X) (x : X) (i : ℕ) → i ≡ length xs → xs ++ x ∷ [] ≡ insert xs i x
put_last [] x zero is = refl
put_last [] x (suc i) is = absurd (omega (arith, is))
put_last (y ∷ xs) x zero is = absurd (omega (arith, is))
put_last (y ∷ xs) x (suc i) is = ap (λ l. y ∷ l) (put_last xs x i (omega (arith, is)))

pub last_gone : (xs : List ℕ) (i : ℕ) → i + 1 ≡ length xs → take i xs ≡ remove xs i
last_gone [] i is = absurd (omega (arith, is))
last_gone (x ∷ []) zero is = refl
last_gone (x ∷ y ∷ xs) zero is = absurd (omega (arith, is))
last_gone (x ∷ xs) (suc i) is = ap (λ l. x ∷ l) (last_gone xs i (omega (arith, is)))

-- what a list's last place gives once it is gone
pub popped : (xs : List ℕ) (r : Option ℕ) (n : ℕ) → n ≡ length xs → (IsSome r ↔ (0 < n)) → ((d : ℕ) → 0 < n → r ≡ Some (get_or xs (n - 1) d)) → r ≡ slice_get xs (length xs - 1)
popped [] None n is some at = refl
popped [] (Some x) n is some at = absurd (omega (arith, is, some.0 refl))
popped (x ∷ xs) r n is some at =
    let place : n - 1 ≡ length (x ∷ xs) - 1 = omega (arith, is) in
    at 0 (omega (arith, is)) ∙ ap (λ k. Some (get_or (x ∷ xs) k 0)) place ∙ sym (slice_get-get_or (x ∷ xs) (length (x ∷ xs) - 1) 0 (omega arith))

-- ---- what a search finds
far : (xs : List ℕ) → Rises xs → (i j : ℕ) → i ≤ j → j < length xs → get_or xs i 0 ≤ get_or xs j 0
far xs rises i j le last = elim (same_or_apart i j) [
  | inl same ↦ omega (arith, ap (λ n. get_or xs n 0) same)
  | inr apart ↦ omega (arith, below_from_sorted xs i j 0 rises (less i j le apart) last)
]
  where
    less : (m n : ℕ) → m ≤ n → nat_eq m n ≡ false → m < n
    less m n h e = grind (arith, nat_tests)

pub found_at : (xs : List ℕ) (x i : ℕ) → IsBinarySearchResult (λ y. nat_cmp y x) xs (Ok i) → Rises xs → IsFoundAt xs x i
found_at xs x i is rises =
    let at : (i < length xs) × (get_or xs i 0 ≡ x) = searched xs x (Ok i) is (far xs rises) in
    record { within = at.0; is = at.1 }

pub gap_at : (xs : List ℕ) (x i : ℕ) → IsBinarySearchResult (λ y. nat_cmp y x) xs (Err i) → Rises xs → IsGapAt xs x i
gap_at xs x i is rises =
    let at : (i ≤ length xs) × ((k : ℕ) → k < i → get_or xs k 0 < x) × ((k : ℕ) → i ≤ k → k < length xs → x < get_or xs k 0) = searched xs x (Err i) is (far xs rises) in
    record { within = at.0; below = at.1; above = at.2 }

pub searched_place : (xs : List ℕ) (x : ℕ) (r : Result ℕ ℕ) → IsBinarySearchResult (λ y. nat_cmp y x) xs r → Rises xs → MatchResult r (IsFoundAt xs x) (IsGapAt xs x)
searched_place xs x (Ok i) is rises = found_at xs x i is rises
searched_place xs x (Err i) is rises = gap_at xs x i is rises

-- what a look at the last finds
pub none_gap : (xs : List ℕ) (x : ℕ) → length xs ≡ 0 → IsGapAt xs x 0
none_gap xs x none = record { within = omega arith; below = λ k less. absurd (omega (arith, less)); above = λ k from last. absurd (omega (arith, none, last)) }

pub last_found : (xs : List ℕ) (x n : ℕ) → n ≡ length xs → 0 < length xs → get_or xs (length xs - 1) 0 ≡ x → IsFoundAt xs x (n - 1)
last_found xs x n long some is =
    let place : n - 1 ≡ length xs - 1 = omega (arith, long) in
    record { within = omega (arith, long, some); is = ap (λ k. get_or xs k 0) place ∙ is }

pub end_gap : (xs : List ℕ) (x n : ℕ) → Rises xs → n ≡ length xs → 0 < length xs → get_or xs (length xs - 1) 0 < x → IsGapAt xs x n
end_gap xs x n rises long some less = record {
  within = omega (arith, long);
  below = λ k before. omega (arith, far xs rises k (length xs - 1) (omega (arith, before, long)) (omega (arith, some)), less);
  above = λ k from last. absurd (omega (arith, long, from, last));
}

-- what a look at the first finds
pub first_found : (xs : List ℕ) (x y : ℕ) → 0 < length xs → y ≡ get_or xs 0 0 → x ≡ y → IsFoundAt xs x 0
first_found [] x y some at is = absurd (omega (arith, some))
first_found (z ∷ xs) x y some at is = record { within = some; is = sym at ∙ sym is }

pub first_gap : (xs : List ℕ) (x y : ℕ) → Rises xs → 0 < length xs → y ≡ get_or xs 0 0 → x < y → IsGapAt xs x 0
first_gap [] x y rises some at less = absurd (omega (arith, some))
first_gap (z ∷ xs) x y rises some at less = record {
  within = omega arith;
  below = λ k before. absurd (omega (arith, before));
  above = λ k from last. omega (arith, less, at, far (z ∷ xs) rises 0 k (omega arith) last);
}

-- the places up to one that is found, and from it on
pub upto_found : (xs : List ℕ) (x i : ℕ) → IsFoundAt xs x i → Rises xs → (k : ℕ) → k < i + 1 → get_or xs k 0 ≤ x
upto_found xs x i found rises k less = omega (arith, found.is, far xs rises k i (omega (arith, less)) found.within)

pub from_found : (xs : List ℕ) (x i : ℕ) → IsFoundAt xs x i → Rises xs → (k : ℕ) → i + 1 ≤ k → k < length xs → x < get_or xs k 0
from_found xs x i found rises k more last = omega (arith, found.is, below_from_sorted xs i k 0 rises (omega (arith, more)) last)

-- ---- whether it is there
pub has_found : (xs : List ℕ) (x i : ℕ) → i < length xs → get_or xs i 0 ≡ x → has xs x ≡ true
has_found [] x i within is = absurd (omega (arith, within))
has_found (y ∷ xs) x zero within is = ap (λ b. b || has xs x) (here x y (sym is))
has_found (y ∷ xs) x (suc i) within is = ap (λ b. nat_eq x y || b) (has_found xs x i (omega (arith, within)) is) ∙ or_true (nat_eq x y)
  where
    or_true : (b : Bool) → (b || true) ≡ true
    or_true true = refl
    or_true false = refl

pub has_gap : (xs : List ℕ) (x i : ℕ) → ((k : ℕ) → k < i → get_or xs k 0 < x) → ((k : ℕ) → i ≤ k → k < length xs → x < get_or xs k 0) → has xs x ≡ false
has_gap [] x i below above = refl
has_gap (y ∷ xs) x zero below above =
    has_other x y xs (other x y (above zero (omega arith) (omega arith))) ∙ has_gap xs x zero (λ k less. absurd (omega (arith, less))) (λ k from last. above (suc k) (omega arith) (omega (arith, last)))
  where
    other : (m n : ℕ) → m < n → nat_eq m n ≡ false
    other m n h = grind (arith, nat_tests)
has_gap (y ∷ xs) x (suc i) below above =
    has_other x y xs (above_apart x y (below zero (omega arith))) ∙ has_gap xs x i (λ k less. below (suc k) (omega (arith, less))) (λ k from last. above (suc k) (omega (arith, from)) (omega (arith, last)))

pub search_has : (xs : List ℕ) (x : ℕ) (r : Result ℕ ℕ) → IsBinarySearchResult (λ y. nat_cmp y x) xs r → Rises xs → is_ok r ≡ has xs x
search_has xs x (Ok i) is rises = let found : IsFoundAt xs x i = found_at xs x i is rises in sym (has_found xs x i found.within found.is)
search_has xs x (Err i) is rises = let gap : IsGapAt xs x i = gap_at xs x i is rises in sym (has_gap xs x i gap.below gap.above)

-- what stands at a place is there
pub place_has : (xs : List ℕ) (i : ℕ) → IfSome (slice_get xs i) (λ x. has xs x ≡ true)
place_has [] i = tt
place_has (y ∷ xs) zero = ap (λ b. b || has xs y) (here y y refl)
place_has (y ∷ xs) (suc i) = behind (slice_get xs i) (place_has xs i)
  where
    or_true : (b : Bool) → (b || true) ≡ true
    or_true true = refl
    or_true false = refl

    behind : (o : Option ℕ) → IfSome o (λ x. has xs x ≡ true) → IfSome o (λ x. has (y ∷ xs) x ≡ true)
    behind None is = tt
    behind (Some x) is = ap (λ b. nat_eq x y || b) is ∙ or_true (nat_eq x y)

-- ---- it comes to the gap, or goes from where it is
pub insert_is : (xs : List ℕ) (x i : ℕ) → i ≤ length xs → ((k : ℕ) → k < i → get_or xs k 0 < x) → ((k : ℕ) → i ≤ k → k < length xs → x < get_or xs k 0) →
    insert xs i x ≡ insert_key nat_cmp xs x
insert_is [] x zero within below above = refl
insert_is [] x (suc i) within below above = absurd (omega (arith, within))
insert_is (y ∷ xs) x zero within below above =
    sym (ap (λ o. match_ordering o (x ∷ y ∷ xs) (y ∷ xs) (y ∷ insert_key nat_cmp xs x)) (low x y (above zero (omega arith) (omega arith))))
  where
    low : (m n : ℕ) → m < n → nat_cmp m n ≡ Less
    low m n h = grind (arith, nat_tests)
insert_is (y ∷ xs) x (suc i) within below above =
    ap (λ ys. y ∷ ys) (insert_is xs x i (omega (arith, within)) (λ k less. below (suc k) (omega (arith, less))) (λ k from last. above (suc k) (omega (arith, from)) (omega (arith, last))))
    ∙ sym (ap (λ o. match_ordering o (x ∷ y ∷ xs) (y ∷ xs) (y ∷ insert_key nat_cmp xs x)) (high x y (below zero (omega arith))))
  where
    high : (m n : ℕ) → n < m → nat_cmp m n ≡ Greater
    high m n h = grind (arith, nat_tests)

pub remove_is : (xs : List ℕ) (x i : ℕ) → i < length xs → get_or xs i 0 ≡ x → Rises xs → remove xs i ≡ remove_key (is_at (nat_cmp x)) xs
unfolding IsStrictlySortedBy
remove_is [] x i within is rises = absurd (omega (arith, within))
remove_is (y ∷ xs) x zero within is rises = sym (ap (λ t. if t then xs else y ∷ remove_key (is_at (nat_cmp x)) xs) (at_here x y (sym is)))
remove_is (y ∷ xs) x (suc i) within is rises =
    ap (λ ys. y ∷ ys) (remove_is xs x i (omega (arith, within)) is rises.1)
    ∙ sym (ap (λ t. if t then xs else y ∷ remove_key (is_at (nat_cmp x)) xs) (at_apart x y (above_apart x y (omega (arith, is, below_from_sorted (y ∷ xs) zero (suc i) 0 rises (omega arith) within)))))

-- ---- what a mark does
pub marked_in : (xs : List ℕ) (x i : ℕ) → IsGapAt xs x i → insert xs i x ≡ marked x true xs
marked_in xs x i gap = insert_is xs x i gap.within gap.below gap.above

pub marked_out : (xs : List ℕ) (x i : ℕ) → IsFoundAt xs x i → Rises xs → remove xs i ≡ marked x false xs
marked_out xs x i found rises = remove_is xs x i found.within found.is rises

pub marked_found : (xs : List ℕ) (x i : ℕ) → IsFoundAt xs x i → Rises xs → marked x true xs ≡ xs
marked_found xs x i found rises = marked_same xs x true rises (has_found xs x i found.within found.is)

pub marked_gap : (xs : List ℕ) (x i : ℕ) → IsGapAt xs x i → Rises xs → marked x false xs ≡ xs
marked_gap xs x i gap rises = marked_same xs x false rises (has_gap xs x i gap.below gap.above)

-- ---- the first above another
pub item_copied : (xs : List ℕ) (i : ℕ) (r : Option (Bor ℕ)) → IsItemAt xs i r → option_copied r ≡ slice_get xs i
item_copied xs i None at = sym (slice_get_past xs i at.3)
item_copied xs i (Some x) at =
    let is : x.now ≡ get_or xs i 0 = at.4 (omega arith) 0 in
    ap Some is ∙ sym (slice_get-get_or xs i 0 at.3.0)

pub above_at : (xs : List ℕ) (n i : ℕ) → i ≤ length xs → ((k : ℕ) → k < i → get_or xs k 0 ≤ n) → ((k : ℕ) → i ≤ k → k < length xs → n < get_or xs k 0) →
    slice_get xs i ≡ first_above n xs
above_at [] n i within below above = refl
above_at (y ∷ xs) n zero within below above = sym (ap (λ t. if t then Some y else find (nat_lt n) xs) (test n y (above zero (omega arith) (omega arith))))
  where
    test : (m k : ℕ) → m < k → nat_lt m k ≡ true
    test m k h = grind (arith, nat_tests)
above_at (y ∷ xs) n (suc i) within below above =
    above_at xs n i (omega (arith, within)) (λ k less. below (suc k) (omega (arith, less))) (λ k from last. above (suc k) (omega (arith, from)) (omega (arith, last)))
    ∙ sym (ap (λ t. if t then Some y else find (nat_lt n) xs) (test n y (below zero (omega arith))))
  where
    test : (m k : ℕ) → k ≤ m → nat_lt m k ≡ false
    test m k h = grind (arith, nat_tests)
