-- The least number above another that has a value: on its page behind it, or else on the pages behind that.
use Rattle.number_set.specs.NumberMap.{IsAt, IsGap, IsSorted}
use Rattle.number_set.specs.NumberSet.{first, first_above, has}
use Rattle.number_set.proofs.Tests.{at_eq}
use Rattle.paged_map.proofs.Directory.{above, at_rest, behind, below, gap_past, gap_rest, parts, small}
use Rattle.paged_map.specs.Pages.{AreOrdered, entries_from, entries_on}
use Rattle.std.proofs.Common.{ap, arith, cond, get_or, refl, sym, true≢false, ◌∙◌}
use Rattle.std.proofs.lemmas.Bool.Decides.{nat_tests}
use Rattle.std.specs.BTreeMap.{is_at}
use Rattle.std.specs.List.{AllByRecursion, find}
use Rattle.std.specs.List.Sorted.{IsStrictlySortedBy}
use Rattle.std.specs.Map.{keys_of, lookup}
use Rattle.std.specs.Ordering.{nat_cmp}
use Rattle.std.specs.Prelude.{Bool, List, None, Option, Some, [], drop, false, is_some, length, nat_eq, nat_lt, suc, true, zero, ℕ, ◌%◌, ◌*◌, ◌+◌, ◌++◌, ◌/◌, ◌<◌, ◌||◌, ◌∷◌, ◌≡◌, ◌≤◌}

is_above : (m n : ℕ) → m < n → nat_lt m n ≡ true
is_above m n less = grind (arith, nat_tests)

is_upto : (m n : ℕ) → n ≤ m → nat_lt m n ≡ false
is_upto m n le = grind (arith, nat_tests)

-- one slot further
shift : (n i : ℕ) → n + suc i ≡ n + 1 + i
shift n i = omega arith

second : (n : ℕ) → n + 1 ≡ n + suc zero
second n = omega arith

behind_first : (n : ℕ) → n + 0 + 1 ≡ n + suc zero
behind_first n = omega arith

one_up : (n : ℕ) → suc n ≡ n + 1
one_up n = omega arith

module _ {X : Type 0} where
  abbrev AreLong : List (ℕ × List (Option X)) → Type 0
  AreLong pages = AllByRecursion (λ page. length page.1 ≡ 16) pages

  -- ---- lists put together
  pub first_here : (es fs : List (ℕ × X)) → is_some (first (keys_of es)) ≡ true → first (keys_of (es ++ fs)) ≡ first (keys_of es)
  first_here [] fs some = absurd (true≢false (sym some))
  first_here (e ∷ es) fs some = refl

  pub first_behind : (es fs : List (ℕ × X)) → is_some (first (keys_of es)) ≡ false → first (keys_of (es ++ fs)) ≡ first (keys_of fs)
  first_behind [] fs none = refl
  first_behind (e ∷ es) fs none = absurd (true≢false none)

  -- ---- slots
  -- one that is read, and those behind it
  pub slot_read : (n i : ℕ) (slots : List (Option X)) → i < length slots → is_some (get_or slots i None) ≡ true → first (keys_of (entries_from (n + i) (drop i slots))) ≡ Some (n + i)
  slot_read n i [] within some = absurd (omega (arith, within))
  slot_read n zero (None ∷ slots) within some = absurd (true≢false (sym some))
  slot_read n zero (Some v ∷ slots) within some = refl
  slot_read n (suc i) (s ∷ slots) within some = ap (λ k. first (keys_of (entries_from k (drop i slots)))) (shift n i) ∙ slot_read (n + 1) i slots (omega (arith, within)) some ∙ ap Some (sym (shift n i))

  slot_past : (n i : ℕ) (slots : List (Option X)) → i < length slots → is_some (get_or slots i None) ≡ false → entries_from (n + i) (drop i slots) ≡ entries_from (n + suc i) (drop (suc i) slots)
  slot_past n i [] within none = absurd (omega (arith, within))
  slot_past n zero (None ∷ slots) within none = ap (λ k. entries_from k slots) (behind_first n)
  slot_past n zero (Some v ∷ slots) within none = absurd (true≢false none)
  slot_past n (suc i) (s ∷ slots) within none =
      ap (λ k. entries_from k (drop i slots)) (shift n i) ∙ slot_past (n + 1) i slots (omega (arith, within)) none ∙ ap (λ k. entries_from k (drop (suc i) slots)) (sym (shift n (suc i)))

  pub slot_by_slot : (n i : ℕ) (slots : List (Option X)) → i < length slots → is_some (get_or slots i None) ≡ false → entries_from (n + (i + 1)) (drop (i + 1) slots) ≡ entries_from (n + i) (drop i slots)
  slot_by_slot n i slots within none = ap (λ k. entries_from (n + k) (drop k slots)) (sym (one_up i)) ∙ sym (slot_past n i slots within none)

  pub slots_past : (n i : ℕ) (slots : List (Option X)) → length slots ≤ i → entries_from n (drop i slots) ≡ []
  slots_past n zero [] past = refl
  slots_past n (suc i) [] past = refl
  slots_past n zero (s ∷ slots) past = absurd (omega (arith, past))
  slots_past n (suc i) (s ∷ slots) past = slots_past n i slots (omega (arith, past))

  -- ---- what is above a number
  -- all slots are
  above_all : (k n : ℕ) (slots : List (Option X)) (rest : List (ℕ × X)) → k < n → first_above k (keys_of rest) ≡ first (keys_of rest)
      → first_above k (keys_of (entries_from n slots ++ rest)) ≡ first (keys_of (entries_from n slots ++ rest))
  above_all k n [] rest less is = is
  above_all k n (None ∷ slots) rest less is = above_all k (n + 1) slots rest (omega (arith, less)) is
  above_all k n (Some v ∷ slots) rest less is = ap (λ t. cond t (Some n) (find (nat_lt k) (keys_of (entries_from (n + 1) slots ++ rest)))) (is_above k n less)

  -- none is
  above_none : (k n : ℕ) (slots : List (Option X)) (rest : List (ℕ × X)) → n + length slots ≤ k → first_above k (keys_of (entries_from n slots ++ rest)) ≡ first_above k (keys_of rest)
  above_none k n [] rest far = refl
  above_none k n (None ∷ slots) rest far = above_none k (n + 1) slots rest (omega (arith, far))
  above_none k n (Some v ∷ slots) rest far =
      ap (λ t. cond t (Some n) (find (nat_lt k) (keys_of (entries_from (n + 1) slots ++ rest)))) (is_upto k n (omega (arith, far))) ∙ above_none k (n + 1) slots rest (omega (arith, far))

  -- those behind one are
  above_slot : (n i : ℕ) (slots : List (Option X)) (rest : List (ℕ × X)) → first_above (n + i) (keys_of rest) ≡ first (keys_of rest)
      → first_above (n + i) (keys_of (entries_from n slots ++ rest)) ≡ first (keys_of (entries_from (n + suc i) (drop (suc i) slots) ++ rest))
  above_slot n i [] rest is = is
  above_slot n zero (None ∷ slots) rest is = above_all (n + 0) (n + 1) slots rest (omega arith) is ∙ ap (λ k. first (keys_of (entries_from k slots ++ rest))) (second n)
  above_slot n zero (Some v ∷ slots) rest is =
      ap (λ t. cond t (Some n) (find (nat_lt (n + 0)) (keys_of (entries_from (n + 1) slots ++ rest)))) (is_upto (n + 0) n (omega arith))
      ∙ above_all (n + 0) (n + 1) slots rest (omega arith) is ∙ ap (λ k. first (keys_of (entries_from k slots ++ rest))) (second n)
  above_slot n (suc i) (None ∷ slots) rest is =
      ap (λ k. first_above k (keys_of (entries_from (n + 1) slots ++ rest))) (shift n i)
      ∙ above_slot (n + 1) i slots rest (ap (λ k. first_above k (keys_of rest)) (sym (shift n i)) ∙ is)
      ∙ ap (λ k. first (keys_of (entries_from k (drop (suc i) slots) ++ rest))) (sym (shift n (suc i)))
  above_slot n (suc i) (Some v ∷ slots) rest is =
      ap (λ t. cond t (Some n) (find (nat_lt (n + suc i)) (keys_of (entries_from (n + 1) slots ++ rest)))) (is_upto (n + suc i) n (omega arith))
      ∙ ap (λ k. first_above k (keys_of (entries_from (n + 1) slots ++ rest))) (shift n i)
      ∙ above_slot (n + 1) i slots rest (ap (λ k. first_above k (keys_of rest)) (sym (shift n i)) ∙ is)
      ∙ ap (λ k. first (keys_of (entries_from k (drop (suc i) slots) ++ rest))) (sym (shift n (suc i)))

  -- ---- pages
  -- all are above
  above_pages : (k q : ℕ) (pages : List (ℕ × List (Option X))) → IsGap q zero pages → k < q * 16 + 16 → first_above k (keys_of (entries_on pages)) ≡ first (keys_of (entries_on pages))
  above_pages k q [] gap less = refl
  above_pages k q (p ∷ pages) gap less = above_all k (p.0 * 16) p.1 (entries_on pages) (omega (arith, less, above q p pages gap)) (above_pages k q pages (gap_past q p pages gap) less)

  above_gap : (k q place : ℕ) (pages : List (ℕ × List (Option X))) → IsGap q place pages → AreLong pages → q * 16 ≤ k → k < q * 16 + 16
      → first_above k (keys_of (entries_on pages)) ≡ first (keys_of (entries_on (drop place pages)))
  above_gap k q zero pages gap long from less = above_pages k q pages gap less
  above_gap k q (suc place) [] gap long from less = refl
  above_gap k q (suc place) (p ∷ pages) gap long from less =
      above_none k (p.0 * 16) p.1 (entries_on pages) (omega (arith, long.0, gap.before zero (omega arith), from)) ∙ above_gap k q place pages (gap_rest q place p pages gap) long.1 from less

  above_at : (q i place : ℕ) (page : ℕ × List (Option X)) (pages : List (ℕ × List (Option X))) → IsAt q place pages → IsSorted pages → AreLong pages → i < 16 → page ≡ get_or pages place page
      → first_above (q * 16 + i) (keys_of (entries_on pages)) ≡ first (keys_of (entries_from (page.0 * 16 + suc i) (drop (suc i) page.1) ++ entries_on (drop (suc place) pages)))
  unfolding IsStrictlySortedBy
  above_at q i place page [] at sorted long less is = absurd (omega (arith, at.within))
  above_at q i zero page (p ∷ pages) at sorted long less is =
      ap (λ m. first_above (m * 16 + i) (keys_of (entries_on (p ∷ pages)))) (sym at.is)
      ∙ above_slot (p.0 * 16) i p.1 (entries_on pages) (above_pages (p.0 * 16 + i) p.0 pages (behind p.0 p pages sorted refl) (omega (arith, less)))
      ∙ ap (λ (s : ℕ × List (Option X)). first (keys_of (entries_from (s.0 * 16 + suc i) (drop (suc i) s.1) ++ entries_on pages))) (sym is)
  above_at q i (suc place) page (p ∷ pages) at sorted long less is =
      above_none (q * 16 + i) (p.0 * 16) p.1 (entries_on pages) (omega (arith, long.0, below q place p pages at))
      ∙ above_at q i place page pages (at_rest q place p pages at) sorted.1 long.1 less is

  -- ---- the same of a number
  pub next_gap : (n place : ℕ) (pages : List (ℕ × List (Option X))) → IsGap (n / 16) place pages → AreOrdered pages → first_above n (keys_of (entries_on pages)) ≡ first (keys_of (entries_on (drop place pages)))
  next_gap n place pages gap ordered = above_gap n (n / 16) place pages gap ordered.long (omega (arith, parts n)) (omega (arith, parts n, small n))

  pub next_at : (n place : ℕ) (page : ℕ × List (Option X)) (pages : List (ℕ × List (Option X))) → IsAt (n / 16) place pages → AreOrdered pages → page ≡ get_or pages place page
      → first_above n (keys_of (entries_on pages)) ≡ first (keys_of (entries_from (page.0 * 16 + (n % 16 + 1)) (drop (n % 16 + 1) page.1) ++ entries_on (drop (place + 1) pages)))
  next_at n place page pages at ordered is =
      ap (λ k. first_above k (keys_of (entries_on pages))) (sym (parts n)) ∙ above_at (n / 16) (n % 16) place page pages at ordered.order ordered.long (small n) is
      ∙ ap (λ k. first (keys_of (entries_from (page.0 * 16 + k) (drop k page.1) ++ entries_on (drop (suc place) pages)))) (one_up (n % 16))
      ∙ ap (λ k. first (keys_of (entries_from (page.0 * 16 + (n % 16 + 1)) (drop (n % 16 + 1) page.1) ++ entries_on (drop k pages)))) (one_up place)

  -- ---- page by page
  pub page_first : (page : ℕ × List (Option X)) (rest later : List (ℕ × List (Option X))) (o : Option ℕ) → rest ≡ page ∷ later
      → o ≡ first (keys_of (entries_from (page.0 * 16 + 0) (drop 0 page.1))) → is_some o ≡ true → o ≡ first (keys_of (entries_on rest))
  page_first page rest later o is found some =
      let here : o ≡ first (keys_of (entries_from (page.0 * 16) page.1)) = found ∙ ap (λ k. first (keys_of (entries_from k page.1))) (end (page.0 * 16)) in
      here ∙ sym (first_here (entries_from (page.0 * 16) page.1) (entries_on later) (sym (ap is_some here) ∙ some)) ∙ ap (λ l. first (keys_of (entries_on l))) (sym is)
    where
      end : (n : ℕ) → n + 0 ≡ n
      end n = omega arith

  pub page_past : (page : ℕ × List (Option X)) (rest later : List (ℕ × List (Option X))) (o : Option ℕ) → rest ≡ page ∷ later
      → o ≡ first (keys_of (entries_from (page.0 * 16 + 0) (drop 0 page.1))) → is_some o ≡ false → first (keys_of (entries_on later)) ≡ first (keys_of (entries_on rest))
  page_past page rest later o is found none =
      let here : o ≡ first (keys_of (entries_from (page.0 * 16) page.1)) = found ∙ ap (λ k. first (keys_of (entries_from k page.1))) (end (page.0 * 16)) in
      sym (first_behind (entries_from (page.0 * 16) page.1) (entries_on later) (sym (ap is_some here) ∙ none)) ∙ ap (λ l. first (keys_of (entries_on l))) (sym is)
    where
      end : (n : ℕ) → n + 0 ≡ n
      end n = omega arith

  -- ---- what a number and a value have to do with the list of the numbers
  pub is_there : (q : ℕ) (es : List (ℕ × X)) → has (keys_of es) q ≡ is_some (lookup (is_at (nat_cmp q)) es)
  is_there q [] = refl
  is_there q (e ∷ es) = by_test (nat_eq q e.0) (is_at (nat_cmp q) e.0) (sym (at_eq q e.0)) (is_there q es)
    where
      by_test : (t s : Bool) → t ≡ s → has (keys_of es) q ≡ is_some (lookup (is_at (nat_cmp q)) es) → (t || has (keys_of es) q) ≡ is_some (cond s (Some e.1) (lookup (is_at (nat_cmp q)) es))
      by_test true true same rest = refl
      by_test false false same rest = rest
      by_test true false same rest = absurd (true≢false same)
      by_test false true same rest = absurd (true≢false (sym same))
