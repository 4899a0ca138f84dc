-- The values on all pages: which number has which, and what a page does that changes, comes or goes.
use Rattle.number_set.proofs.Entries.{insert_gap, remove_at, set_at, sorted_inserted, sorted_none, sorted_removed, sorted_set}
use Rattle.number_set.specs.NumberMap.{IsAt, IsGap, IsSorted}
use Rattle.paged_map.proofs.Slotted.{insert_before, insert_from, insert_past, length_from, lookup_below, lookup_beyond, lookup_from, lookup_past, lookup_rest, remove_from, remove_past, set_from, set_past}
use Rattle.paged_map.specs.Pages.{AreKept, AreOrdered, entries_from, entries_on}
use Rattle.std.proofs.Common.{ap, arith, cond, get_or, length-append, length-set, refl, set, subst, sym, true≢false, ◌∙◌}
use Rattle.std.proofs.lemmas.List.Sums.{sum_by-cons, sum_by-set}
use Rattle.std.proofs.lemmas.Map.Keys.{below_from_sorted}
use Rattle.std.specs.BTreeMap.{insert_entry, is_at}
use Rattle.std.specs.List.{AllByRecursion, insert, remove, sum_by}
use Rattle.std.specs.List.Sorted.{IsStrictlySortedBy}
use Rattle.std.specs.Map.{keys_of, lookup, remove_entry, set_value}
use Rattle.std.specs.Ordering.{nat_cmp}
use Rattle.std.specs.Prelude.{List, None, Option, Some, [], count_by, false, is_some, length, suc, true, zero, ℕ, ◌%◌, ◌*◌, ◌+◌, ◌++◌, ◌-◌, ◌/◌, ◌<◌, ◌^◌, ◌∷◌, ◌≡◌, ◌≤◌}

empty : {A : Type 0} (l : List A) → length l ≡ 0 → l ≡ []
empty [] none = refl
empty (x ∷ l) none = absurd (omega (arith, none))

-- ---- a number and its page
pub parts : (n : ℕ) → n / 16 * 16 + n % 16 ≡ n
parts n = omega arith

pub small : (n : ℕ) → n % 16 < 16
small n = omega arith

-- a value counts
none_counts : {A : Type 0} (o : Option A) → is_some o ≡ false → ◌≡◌ {A = ℕ} (cond (is_some o) 1 0) 0
none_counts None none = refl
none_counts (Some x) none = absurd (true≢false none)

one_counts : {A : Type 0} (o : Option A) → is_some o ≡ true → ◌≡◌ {A = ℕ} (cond (is_some o) 1 0) 1
one_counts None some = absurd (true≢false (sym some))
one_counts (Some x) some = refl

module _ {X : Type 0} where
  abbrev pub AreLong : List (ℕ × List (Option X)) → Type 0
  AreLong pages = AllByRecursion (λ page. length page.1 ≡ 16) pages

  -- ---- places of pages
  pub at_rest : (q place : ℕ) (p : ℕ × List (Option X)) (pages : List (ℕ × List (Option X))) → IsAt q (suc place) (p ∷ pages) → IsAt q place pages
  at_rest q place p pages at = record { within = omega (arith, at.within); before = λ k less. at.before (suc k) (omega (arith, less)); is = at.is }

  pub gap_rest : (q place : ℕ) (p : ℕ × List (Option X)) (pages : List (ℕ × List (Option X))) → IsGap q (suc place) (p ∷ pages) → IsGap q place pages
  gap_rest q place p pages gap = record {
    within = omega (arith, gap.within);
    before = λ k less. gap.before (suc k) (omega (arith, less));
    after = λ k from last. gap.after (suc k) (omega (arith, from)) (omega (arith, last));
  }

  pub gap_past : (q : ℕ) (p : ℕ × List (Option X)) (pages : List (ℕ × List (Option X))) → IsGap q zero (p ∷ pages) → IsGap q zero pages
  gap_past q p pages gap = record {
    within = omega arith;
    before = λ k less. absurd (omega (arith, less));
    after = λ k from last. gap.after (suc k) (omega arith) (omega (arith, last));
  }

  pub above : (q : ℕ) (p : ℕ × List (Option X)) (pages : List (ℕ × List (Option X))) → IsGap q zero (p ∷ pages) → q < p.0
  above q p pages gap = gap.after zero (omega arith) (omega arith)

  pub below : (q place : ℕ) (p : ℕ × List (Option X)) (pages : List (ℕ × List (Option X))) → IsAt q (suc place) (p ∷ pages) → p.0 < q
  below q place p pages at = at.before zero (omega arith)

  as_many : (pages : List (ℕ × List (Option X))) → length (keys_of pages) ≡ length pages
  as_many [] = refl
  as_many (p ∷ pages) = ap suc (as_many pages)

  indexes_rise : (pages : List (ℕ × List (Option X))) → IsSorted pages → (i j : ℕ) → i < j → j < length pages → get_or (keys_of pages) i 0 < get_or (keys_of pages) j 0
  indexes_rise pages sorted i j less last = below_from_sorted (keys_of pages) i j 0 sorted less (omega (arith, last, as_many pages))

  -- behind a page there are greater ones alone
  pub behind : (q : ℕ) (p : ℕ × List (Option X)) (pages : List (ℕ × List (Option X))) → IsSorted (p ∷ pages) → p.0 ≡ q → IsGap q zero pages
  behind q p pages sorted is = record {
    within = omega arith;
    before = λ k less. absurd (omega (arith, less));
    after = λ k from last. omega (arith, is, indexes_rise (p ∷ pages) sorted 0 (suc k) (omega arith) (omega (arith, last)));
  }

  -- the index that stands at a place
  index_read : (place : ℕ) (page : ℕ × List (Option X)) (pages : List (ℕ × List (Option X))) → place < length pages → page ≡ get_or pages place page → get_or (keys_of pages) place 0 ≡ page.0
  index_read place page [] within is = absurd (omega (arith, within))
  index_read zero page (p ∷ pages) within is = ap (λ (s : ℕ × List (Option X)). s.0) (sym is)
  index_read (suc place) page (p ∷ pages) within is = index_read place page pages (omega (arith, within)) is

  index_at : (q place : ℕ) (page : ℕ × List (Option X)) (pages : List (ℕ × List (Option X))) → IsAt q place pages → page ≡ get_or pages place page → page.0 ≡ q
  index_at q place page pages at is = sym (index_read place page pages at.within is) ∙ at.is

  -- a page has a greater index than those before it
  pub page_at : (q i : ℕ) (page : ℕ × List (Option X)) (pages : List (ℕ × List (Option X))) → IsSorted pages → i < length pages → page ≡ get_or pages i page → page.0 ≡ q → IsAt q i pages
  page_at q i page pages sorted within is same = record {
    within = within;
    before = λ k less. omega (arith, index_read i page pages within is, same, indexes_rise pages sorted k i less within);
    is = index_read i page pages within is ∙ same;
  }

  -- so has the last one
  pub last_at : (q : ℕ) (page : ℕ × List (Option X)) (pages : List (ℕ × List (Option X))) → IsSorted pages → 0 < length pages → page ≡ get_or pages (length pages - 1) page → page.0 ≡ q
      → IsAt q (length pages - 1) pages
  last_at q page pages sorted some is same = page_at q (length pages - 1) page pages sorted (omega (arith, some)) is same

  -- ---- what a number has
  lookup_none : (q i : ℕ) (pages : List (ℕ × List (Option X))) → IsGap q zero pages → i < 16 → lookup (is_at (nat_cmp (q * 16 + i))) (entries_on pages) ≡ None
  lookup_none q i [] gap less = refl
  lookup_none q i (p ∷ pages) gap less =
      lookup_past (is_at (nat_cmp (q * 16 + i))) (entries_from (p.0 * 16) p.1) (entries_on pages) (lookup_below (q * 16 + i) (p.0 * 16) p.1 (omega (arith, less, above q p pages gap)))
      ∙ lookup_none q i pages (gap_past q p pages gap) less

  beyond : (q i : ℕ) (p : ℕ × List (Option X)) → length p.1 ≡ 16 → p.0 < q → lookup (is_at (nat_cmp (q * 16 + i))) (entries_from (p.0 * 16) p.1) ≡ None
  beyond q i p long before = lookup_beyond (q * 16 + i) (p.0 * 16) p.1 (omega (arith, long, before))

  pub lookup_gap : (q i place : ℕ) (pages : List (ℕ × List (Option X))) → IsGap q place pages → AreLong pages → i < 16 → lookup (is_at (nat_cmp (q * 16 + i))) (entries_on pages) ≡ None
  lookup_gap q i zero pages gap long less = lookup_none q i pages gap less
  lookup_gap q i (suc place) [] gap long less = refl
  lookup_gap q i (suc place) (p ∷ pages) gap long less =
      lookup_past (is_at (nat_cmp (q * 16 + i))) (entries_from (p.0 * 16) p.1) (entries_on pages) (beyond q i p long.0 (gap.before zero (omega arith)))
      ∙ lookup_gap q i place pages (gap_rest q place p pages gap) long.1 less

  pub lookup_at : (q i place : ℕ) (page : ℕ × List (Option X)) (pages : List (ℕ × List (Option X))) → IsAt q place pages → IsSorted pages → AreLong pages → i < 16 → page ≡ get_or pages place page
      → lookup (is_at (nat_cmp (q * 16 + i))) (entries_on pages) ≡ get_or page.1 i None
  unfolding IsStrictlySortedBy
  lookup_at q i place page [] at sorted long less is = absurd (omega (arith, at.within))
  lookup_at q i zero page (p ∷ pages) at sorted long less is =
      lookup_rest (is_at (nat_cmp (q * 16 + i))) (entries_from (p.0 * 16) p.1) (entries_on pages) (lookup_none q i pages (behind q p pages sorted at.is) less)
      ∙ ap (λ n. lookup (is_at (nat_cmp (n * 16 + i))) (entries_from (p.0 * 16) p.1)) (sym at.is)
      ∙ lookup_from (p.0 * 16) i p.1
      ∙ ap (λ (s : ℕ × List (Option X)). get_or s.1 i None) (sym is)
  lookup_at q i (suc place) page (p ∷ pages) at sorted long less is =
      lookup_past (is_at (nat_cmp (q * 16 + i))) (entries_from (p.0 * 16) p.1) (entries_on pages) (beyond q i p long.0 (below q place p pages at))
      ∙ lookup_at q i place page pages (at_rest q place p pages at) sorted.1 long.1 less is

  -- ---- a slot is written
  insert_first : (k q : ℕ) (v : X) (pages : List (ℕ × List (Option X))) → IsGap q zero pages → k < q * 16 + 16 → insert_entry nat_cmp (entries_on pages) k v ≡ (k, v) ∷ entries_on pages
  insert_first k q v [] gap less = refl
  insert_first k q v (p ∷ pages) gap less =
      insert_before k (p.0 * 16) v p.1 (entries_on pages) (omega (arith, less, above q p pages gap)) (insert_first k q v pages (gap_past q p pages gap) less)

  pub insert_on : (q i place : ℕ) (v : X) (page : ℕ × List (Option X)) (pages : List (ℕ × List (Option X))) → IsAt q place pages → IsSorted pages → AreLong pages → i < 16 → page ≡ get_or pages place page
      → entries_on (set pages place (q, set page.1 i (Some v))) ≡ insert_entry nat_cmp (entries_on pages) (q * 16 + i) v
  unfolding IsStrictlySortedBy
  insert_on q i place v page [] at sorted long less is = absurd (omega (arith, at.within))
  insert_on q i zero v page (p ∷ pages) at sorted long less is =
      insert_from (q * 16) i v page.1 (entries_on pages) (omega (arith, less, long.0, ap (λ (s : ℕ × List (Option X)). length s.1) is)) (insert_first (q * 16 + i) q v pages (behind q p pages sorted at.is) (omega (arith, less)))
      ∙ ap (λ n. insert_entry nat_cmp (entries_from (n * 16) page.1 ++ entries_on pages) (q * 16 + i) v) (sym at.is)
      ∙ ap (λ (s : ℕ × List (Option X)). insert_entry nat_cmp (entries_from (p.0 * 16) s.1 ++ entries_on pages) (q * 16 + i) v) is
  insert_on q i (suc place) v page (p ∷ pages) at sorted long less is =
      ap (λ l. entries_from (p.0 * 16) p.1 ++ l) (insert_on q i place v page pages (at_rest q place p pages at) sorted.1 long.1 less is)
      ∙ sym (insert_past (q * 16 + i) (p.0 * 16) v p.1 (entries_on pages) (omega (arith, long.0, below q place p pages at)))

  pub set_on : (q i place : ℕ) (w : X) (page : ℕ × List (Option X)) (pages : List (ℕ × List (Option X))) → IsAt q place pages → AreLong pages → page ≡ get_or pages place page → is_some (get_or page.1 i None) ≡ true
      → entries_on (set pages place (q, set page.1 i (Some w))) ≡ set_value (is_at (nat_cmp (q * 16 + i))) (entries_on pages) w
  set_on q i place w page [] at long is some = absurd (omega (arith, at.within))
  set_on q i zero w page (p ∷ pages) at long is some =
      set_from (q * 16) i w page.1 (entries_on pages) some
      ∙ ap (λ n. set_value (is_at (nat_cmp (q * 16 + i))) (entries_from (n * 16) page.1 ++ entries_on pages) w) (sym at.is)
      ∙ ap (λ (s : ℕ × List (Option X)). set_value (is_at (nat_cmp (q * 16 + i))) (entries_from (p.0 * 16) s.1 ++ entries_on pages) w) is
  set_on q i (suc place) w page (p ∷ pages) at long is some =
      ap (λ l. entries_from (p.0 * 16) p.1 ++ l) (set_on q i place w page pages (at_rest q place p pages at) long.1 is some)
      ∙ sym (set_past (is_at (nat_cmp (q * 16 + i))) w (entries_from (p.0 * 16) p.1) (entries_on pages) (beyond q i p long.0 (below q place p pages at)))

  pub remove_on : (q i place : ℕ) (page : ℕ × List (Option X)) (pages : List (ℕ × List (Option X))) → IsAt q place pages → AreLong pages → page ≡ get_or pages place page → is_some (get_or page.1 i None) ≡ true
      → entries_on (set pages place (q, set page.1 i None)) ≡ remove_entry (is_at (nat_cmp (q * 16 + i))) (entries_on pages)
  remove_on q i place page [] at long is some = absurd (omega (arith, at.within))
  remove_on q i zero page (p ∷ pages) at long is some =
      remove_from (q * 16) i page.1 (entries_on pages) some
      ∙ ap (λ n. remove_entry (is_at (nat_cmp (q * 16 + i))) (entries_from (n * 16) page.1 ++ entries_on pages)) (sym at.is)
      ∙ ap (λ (s : ℕ × List (Option X)). remove_entry (is_at (nat_cmp (q * 16 + i))) (entries_from (p.0 * 16) s.1 ++ entries_on pages)) is
  remove_on q i (suc place) page (p ∷ pages) at long is some =
      ap (λ l. entries_from (p.0 * 16) p.1 ++ l) (remove_on q i place page pages (at_rest q place p pages at) long.1 is some)
      ∙ sym (remove_past (is_at (nat_cmp (q * 16 + i))) (entries_from (p.0 * 16) p.1) (entries_on pages) (beyond q i p long.0 (below q place p pages at)))

  -- ---- blank pages
  blank_from : (n : ℕ) (slots : List (Option X)) → count_by is_some slots ≡ 0 → entries_from n slots ≡ []
  blank_from n slots none = empty (entries_from n slots) (length_from n slots ∙ none)

  pub insert_blank : (q place : ℕ) (slots : List (Option X)) (pages : List (ℕ × List (Option X))) → count_by is_some slots ≡ 0 → place ≤ length pages → entries_on (insert pages place (q, slots)) ≡ entries_on pages
  insert_blank q zero slots [] none within = ap (λ l. l ++ []) (blank_from (q * 16) slots none)
  insert_blank q (suc place) slots [] none within = absurd (omega (arith, within))
  insert_blank q zero slots (p ∷ pages) none within = ap (λ l. l ++ entries_on (p ∷ pages)) (blank_from (q * 16) slots none)
  insert_blank q (suc place) slots (p ∷ pages) none within = ap (λ l. entries_from (p.0 * 16) p.1 ++ l) (insert_blank q place slots pages none (omega (arith, within)))

  pub remove_blank : (place : ℕ) (page : ℕ × List (Option X)) (pages : List (ℕ × List (Option X))) → place < length pages → page ≡ get_or pages place page → count_by is_some page.1 ≡ 0 → entries_on (remove pages place) ≡ entries_on pages
  remove_blank place page [] within is none = absurd (omega (arith, within))
  remove_blank zero page (p ∷ pages) within is none =
      sym (ap (λ l. l ++ entries_on pages) (blank_from (p.0 * 16) p.1 (ap (λ (s : ℕ × List (Option X)). count_by is_some s.1) (sym is) ∙ none)))
  remove_blank (suc place) page (p ∷ pages) within is none = ap (λ l. entries_from (p.0 * 16) p.1 ++ l) (remove_blank place page pages (omega (arith, within)) is none)

  -- ---- they stay in order, and each as long as it is
  long_set : (place : ℕ) (page : ℕ × List (Option X)) (pages : List (ℕ × List (Option X))) → AreLong pages → length page.1 ≡ 16 → AreLong (set pages place page)
  long_set place page [] long is = tt
  long_set zero page (p ∷ pages) long is = (is, long.1)
  long_set (suc place) page (p ∷ pages) long is = (long.0, long_set place page pages long.1 is)

  long_insert : (place : ℕ) (page : ℕ × List (Option X)) (pages : List (ℕ × List (Option X))) → AreLong pages → length page.1 ≡ 16 → place ≤ length pages → AreLong (insert pages place page)
  long_insert zero page [] long is within = (is, tt)
  long_insert (suc place) page [] long is within = absurd (omega (arith, within))
  long_insert zero page (p ∷ pages) long is within = (is, long)
  long_insert (suc place) page (p ∷ pages) long is within = (long.0, long_insert place page pages long.1 is (omega (arith, within)))

  long_remove : (place : ℕ) (pages : List (ℕ × List (Option X))) → AreLong pages → place < length pages → AreLong (remove pages place)
  long_remove place [] long within = absurd (omega (arith, within))
  long_remove zero (p ∷ pages) long within = long.1
  long_remove (suc place) (p ∷ pages) long within = (long.0, long_remove place pages long.1 (omega (arith, within)))

  pub long_at : (place : ℕ) (page : ℕ × List (Option X)) (pages : List (ℕ × List (Option X))) → AreLong pages → place < length pages → page ≡ get_or pages place page → length page.1 ≡ 16
  long_at place page [] long within is = absurd (omega (arith, within))
  long_at zero page (p ∷ pages) long within is = ap (λ (s : ℕ × List (Option X)). length s.1) is ∙ long.0
  long_at (suc place) page (p ∷ pages) long within is = long_at place page pages long.1 (omega (arith, within)) is

  pub ordered_set : (q place : ℕ) (slots : List (Option X)) (pages : List (ℕ × List (Option X))) → IsAt q place pages → AreOrdered pages → length slots ≡ 16 → AreOrdered (set pages place (q, slots))
  ordered_set q place slots pages at kept is = record {
    order = sorted_set q slots pages (set pages place (q, slots)) kept.order (set_at q place slots pages at);
    long = long_set place (q, slots) pages kept.long is;
  }

  pub ordered_insert : (q place : ℕ) (slots : List (Option X)) (pages : List (ℕ × List (Option X))) → IsGap q place pages → AreOrdered pages → length slots ≡ 16 → AreOrdered (insert pages place (q, slots))
  ordered_insert q place slots pages gap kept is = record {
    order = sorted_inserted q slots pages (insert pages place (q, slots)) kept.order (insert_gap q place slots pages gap);
    long = long_insert place (q, slots) pages kept.long is gap.within;
  }

  -- the page that comes stands at its place
  pub inserted_at : (q place : ℕ) (slots : List (Option X)) (pages : List (ℕ × List (Option X))) → IsGap q place pages → IsAt q place (insert pages place (q, slots))
  inserted_at q zero slots [] gap = record { within = omega arith; before = λ k less. absurd (omega (arith, less)); is = refl }
  inserted_at q (suc place) slots [] gap = absurd (omega (arith, gap.within))
  inserted_at q zero slots (p ∷ pages) gap = record { within = omega arith; before = λ k less. absurd (omega (arith, less)); is = refl }
  inserted_at q (suc place) slots (p ∷ pages) gap = further q p (insert pages place (q, slots)) place (gap.before zero (omega arith)) (inserted_at q place slots pages (gap_rest q place p pages gap))
    where
      further : (q : ℕ) (p : ℕ × List (Option X)) (pages : List (ℕ × List (Option X))) (place : ℕ) → p.0 < q → IsAt q place pages → IsAt q (suc place) (p ∷ pages)
      further q p pages place less at = record { within = omega (arith, at.within); before = each; is = at.is }
        where
          each : (k : ℕ) → k < suc place → get_or (keys_of (p ∷ pages)) k 0 < q
          each zero inside = less
          each (suc k) inside = at.before k (omega (arith, inside))

  pub ordered_remove : (q place : ℕ) (pages : List (ℕ × List (Option X))) → IsAt q place pages → AreOrdered pages → AreOrdered (remove pages place)
  ordered_remove q place pages at kept = record {
    order = sorted_removed q pages (remove pages place) kept.order (remove_at q place pages at);
    long = long_remove place pages kept.long at.within;
  }

  -- each page stands where it stands
  pub stands : (place : ℕ) (page : ℕ × List (Option X)) (pages : List (ℕ × List (Option X))) → IsSorted pages → place < length pages → page ≡ get_or pages place page → IsAt page.0 place pages
  unfolding IsStrictlySortedBy
  stands place page [] sorted within is = absurd (omega (arith, within))
  stands zero page (p ∷ pages) sorted within is = record { within = omega arith; before = λ k less. absurd (omega (arith, less)); is = ap (λ (s : ℕ × List (Option X)). s.0) (sym is) }
  stands (suc place) page (p ∷ pages) sorted within is = further (stands place page pages sorted.1 (omega (arith, within)) is)
    where
      further : IsAt page.0 place pages → IsAt page.0 (suc place) (p ∷ pages)
      further there = record {
        within = within;
        before = λ k less. omega (arith, there.is, indexes_rise (p ∷ pages) sorted k (suc place) less within);
        is = there.is;
      }

  -- ---- how many values there are
  length_on : (pages : List (ℕ × List (Option X))) → length (entries_on pages) ≡ sum_by (λ (s : ℕ × List (Option X)). count_by is_some s.1) pages
  length_on [] = refl
  length_on (p ∷ pages) = omega (arith, length-append (entries_from (p.0 * 16) p.1) (entries_on pages), length_from (p.0 * 16) p.1, length_on pages, sum_by-cons (λ (s : ℕ × List (Option X)). count_by is_some s.1) p pages)

  pub length_set : (q i place : ℕ) (o : Option X) (page : ℕ × List (Option X)) (pages : List (ℕ × List (Option X))) → place < length pages → i < length page.1 → page ≡ get_or pages place page
      → length (entries_on (set pages place (q, set page.1 i o))) + cond (is_some (get_or page.1 i None)) 1 0 ≡ length (entries_on pages) + cond (is_some o) 1 0
  length_set q i place o page pages within inside is = omega (
    arith,
    length_on pages,
    length_on (set pages place (q, set page.1 i o)),
    sum_by-set (λ (s : ℕ × List (Option X)). count_by is_some s.1) pages place (q, set page.1 i o) page within,
    ap (λ (s : ℕ × List (Option X)). count_by is_some s.1) is,
    sum_by-set (λ o. cond (is_some o) 1 0) page.1 i o None inside,
  )

  -- ---- what a number's page has and gets
  pub found : (n place : ℕ) (page : ℕ × List (Option X)) (pages : List (ℕ × List (Option X))) → AreOrdered pages → IsAt (n / 16) place pages → page ≡ get_or pages place page
      → lookup (is_at (nat_cmp n)) (entries_on pages) ≡ get_or page.1 (n % 16) None
  found n place page pages kept at is =
      ap (λ k. lookup (is_at (nat_cmp k)) (entries_on pages)) (sym (parts n)) ∙ lookup_at (n / 16) (n % 16) place page pages at kept.order kept.long (small n) is

  pub not_found : (n place : ℕ) (pages : List (ℕ × List (Option X))) → AreOrdered pages → IsGap (n / 16) place pages → lookup (is_at (nat_cmp n)) (entries_on pages) ≡ None
  not_found n place pages kept gap =
      ap (λ k. lookup (is_at (nat_cmp k)) (entries_on pages)) (sym (parts n)) ∙ lookup_gap (n / 16) (n % 16) place pages gap kept.long (small n)

  -- the page is written where it stands
  rewritten : (q i place : ℕ) (o : Option X) (page new : ℕ × List (Option X)) (pages : List (ℕ × List (Option X))) → IsAt q place pages → page ≡ get_or pages place page → new ≡ (page.0, set page.1 i o)
      → set pages place new ≡ set pages place (q, set page.1 i o)
  rewritten q i place o page new pages at is written = ap (set pages place) (written ∙ ap (λ (k : ℕ). (k, set page.1 i o)) (index_at q place page pages at is))

  pub put_on : (n place : ℕ) (v : X) (page new : ℕ × List (Option X)) (pages : List (ℕ × List (Option X))) → AreOrdered pages → IsAt (n / 16) place pages → page ≡ get_or pages place page
      → new ≡ (page.0, set page.1 (n % 16) (Some v)) → entries_on (set pages place new) ≡ insert_entry nat_cmp (entries_on pages) n v
  put_on n place v page new pages kept at is written =
      ap entries_on (rewritten (n / 16) (n % 16) place (Some v) page new pages at is written)
      ∙ insert_on (n / 16) (n % 16) place v page pages at kept.order kept.long (small n) is
      ∙ ap (λ k. insert_entry nat_cmp (entries_on pages) k v) (parts n)

  pub written_on : (n place : ℕ) (w : X) (page new : ℕ × List (Option X)) (pages : List (ℕ × List (Option X))) → AreOrdered pages → IsAt (n / 16) place pages → page ≡ get_or pages place page
      → is_some (get_or page.1 (n % 16) None) ≡ true → new ≡ (page.0, set page.1 (n % 16) (Some w)) → entries_on (set pages place new) ≡ set_value (is_at (nat_cmp n)) (entries_on pages) w
  written_on n place w page new pages kept at is some written =
      ap entries_on (rewritten (n / 16) (n % 16) place (Some w) page new pages at is written)
      ∙ set_on (n / 16) (n % 16) place w page pages at kept.long is some
      ∙ ap (λ k. set_value (is_at (nat_cmp k)) (entries_on pages) w) (parts n)

  pub taken_on : (n place : ℕ) (page new : ℕ × List (Option X)) (pages : List (ℕ × List (Option X))) → AreOrdered pages → IsAt (n / 16) place pages → page ≡ get_or pages place page
      → is_some (get_or page.1 (n % 16) None) ≡ true → new ≡ (page.0, set page.1 (n % 16) None) → entries_on (set pages place new) ≡ remove_entry (is_at (nat_cmp n)) (entries_on pages)
  taken_on n place page new pages kept at is some written =
      ap entries_on (rewritten (n / 16) (n % 16) place None page new pages at is written)
      ∙ remove_on (n / 16) (n % 16) place page pages at kept.long is some
      ∙ ap (λ k. remove_entry (is_at (nat_cmp k)) (entries_on pages)) (parts n)

  pub ordered_written : (n place : ℕ) (o : Option X) (page new : ℕ × List (Option X)) (pages : List (ℕ × List (Option X))) → AreOrdered pages → IsAt (n / 16) place pages → page ≡ get_or pages place page
      → new ≡ (page.0, set page.1 (n % 16) o) → AreOrdered (set pages place new)
  ordered_written n place o page new pages kept at is written =
      subst AreOrdered (sym (rewritten (n / 16) (n % 16) place o page new pages at is written))
      (ordered_set (n / 16) place (set page.1 (n % 16) o) pages at kept (length-set page.1 (n % 16) o ∙ long_at place page pages kept.long at.within is))

  pub counted_written : (n place : ℕ) (o : Option X) (page new : ℕ × List (Option X)) (pages : List (ℕ × List (Option X))) → AreOrdered pages → IsAt (n / 16) place pages → page ≡ get_or pages place page
      → new ≡ (page.0, set page.1 (n % 16) o)
      → length (entries_on (set pages place new)) + cond (is_some (get_or page.1 (n % 16) None)) 1 0 ≡ length (entries_on pages) + cond (is_some o) 1 0
  counted_written n place o page new pages kept at is written =
      ap (λ l. length (entries_on l) + cond (is_some (get_or page.1 (n % 16) None)) 1 0) (rewritten (n / 16) (n % 16) place o page new pages at is written)
      ∙ length_set (n / 16) (n % 16) place o page pages at.within (omega (arith, small n, long_at place page pages kept.long at.within is)) is

  -- a page that is read twice is the same
  pub same_read : (place : ℕ) (page other : ℕ × List (Option X)) (pages : List (ℕ × List (Option X))) → place < length pages → page ≡ get_or pages place page → other ≡ get_or pages place other → page ≡ other
  same_read place page other [] within is also = absurd (omega (arith, within))
  same_read zero page other (p ∷ pages) within is also = is ∙ sym also
  same_read (suc place) page other (p ∷ pages) within is also = same_read place page other pages (omega (arith, within)) is also

  pub read_or : (place : ℕ) (page other : ℕ × List (Option X)) (pages : List (ℕ × List (Option X))) → place < length pages → page ≡ get_or pages place page → page ≡ get_or pages place other
  read_or place page other [] within is = absurd (omega (arith, within))
  read_or zero page other (p ∷ pages) within is = is
  read_or (suc place) page other (p ∷ pages) within is = read_or place page other pages (omega (arith, within)) is

  -- ---- what holds of a map goes on to hold
  pub kept_none : (pages : List (ℕ × List (Option X))) → pages ≡ [] → AreKept 0 pages
  kept_none pages is = subst (AreKept 0) (sym is) (record { pages = record { order = sorted_none (List (Option X)); long = tt }; small = omega arith; counted = refl })

  pub kept_more : (len n place : ℕ) (v : X) (page new : ℕ × List (Option X)) (pages : List (ℕ × List (Option X))) → AreOrdered pages → len + 1 < 2 ^ 63 → len ≡ length (entries_on pages) → IsAt (n / 16) place pages
      → page ≡ get_or pages place page → new ≡ (page.0, set page.1 (n % 16) (Some v)) → is_some (get_or page.1 (n % 16) None) ≡ false → AreKept (len + 1) (set pages place new)
  kept_more len n place v page new pages kept small counted at is written none =
      let more : length (entries_on (set pages place new)) + cond (is_some (get_or page.1 (n % 16) None)) 1 0 ≡ length (entries_on pages) + 1 = counted_written n place (Some v) page new pages kept at is written in
      record {
        pages = ordered_written n place (Some v) page new pages kept at is written;
        small = small;
        counted = omega (arith, counted, more, none_counts (get_or page.1 (n % 16) None) none);
      }

  pub kept_same : (len n place : ℕ) (v : X) (page new : ℕ × List (Option X)) (pages : List (ℕ × List (Option X))) → AreOrdered pages → len < 2 ^ 63 → len ≡ length (entries_on pages) → IsAt (n / 16) place pages
      → page ≡ get_or pages place page → new ≡ (page.0, set page.1 (n % 16) (Some v)) → is_some (get_or page.1 (n % 16) None) ≡ true → AreKept len (set pages place new)
  kept_same len n place v page new pages kept small counted at is written some =
      let more : length (entries_on (set pages place new)) + cond (is_some (get_or page.1 (n % 16) None)) 1 0 ≡ length (entries_on pages) + 1 = counted_written n place (Some v) page new pages kept at is written in
      record {
        pages = ordered_written n place (Some v) page new pages kept at is written;
        small = small;
        counted = omega (arith, counted, more, one_counts (get_or page.1 (n % 16) None) some);
      }

  pub one_less : (len n place : ℕ) (page new : ℕ × List (Option X)) (pages : List (ℕ × List (Option X))) → AreOrdered pages → len ≡ length (entries_on pages) → IsAt (n / 16) place pages
      → page ≡ get_or pages place page → new ≡ (page.0, set page.1 (n % 16) None) → is_some (get_or page.1 (n % 16) None) ≡ true → length (entries_on (set pages place new)) + 1 ≡ len
  one_less len n place page new pages kept counted at is written some =
      let less : length (entries_on (set pages place new)) + cond (is_some (get_or page.1 (n % 16) None)) 1 0 ≡ length (entries_on pages) + 0 = counted_written n place None page new pages kept at is written in
      omega (arith, counted, less, one_counts (get_or page.1 (n % 16) None) some)
