-- The numbers of a map ascend; and which number has what once a value came, changed or went.
use Rattle.number_set.proofs.Entries.{sorted_none}
use Rattle.number_set.proofs.Sorted.{Above}
use Rattle.number_set.proofs.Tests.{at_eq, below_apart, compared, is_less, less_is, same_is, turned}
use Rattle.number_set.specs.NumberMap.{IsSorted}
use Rattle.number_set.specs.NumberSet.{has}
use Rattle.paged_map.specs.PagedMap.{PagedMap, Updates, WritesThrough, value_at}
use Rattle.paged_map.specs.Pages.{AreBelow, AreOrdered, entries_from, entries_on}
use Rattle.std.proofs.Common.{ap, arith, cond, inl, inr, refl, subst, sym, true≢false, ◌∙◌}
use Rattle.std.proofs.lemmas.Cmp.{eq_by_cmp_equiv, nat_cmp_total}
use Rattle.std.proofs.lemmas.Map.Views.{All-keys-insert_entry, All-map-remove_entry}
use Rattle.std.proofs.lemmas.Map.Keys.{IsDistinct-from_sorted}
use Rattle.std.proofs.lemmas.Map.{keys-set_value, length-set_value, lookup-remove_entry, lookup-set_value}
use Rattle.std.specs.BTreeMap.{insert_entry, is_at}
use Rattle.std.specs.Cmp.{IsEquivalence}
use Rattle.std.specs.List.{All, AllByRecursion}
use Rattle.std.specs.List.Sorted.{IsStrictlySortedBy}
use Rattle.std.specs.Map.{keys_of, lookup, remove_entry, set_value}
use Rattle.std.specs.Ordering.{eq_by_cmp, match_ordering, nat_cmp}
use Rattle.std.specs.Prelude.{Bool, List, None, Option, Some, [], false, is_some, length, nat_eq, suc, true, ℕ, ◌*◌, ◌+◌, ◌++◌, ◌<◌, ◌||◌, ◌∷◌, ◌≡◌, ◌≤◌}
use Rattle.std.specs.declared.cmp.Ordering.{Ordering}

-- each number is at least m
abbrev AtLeast : ℕ → List ℕ → Type 0
AtLeast m = AllByRecursion (λ k. m ≤ k)

at_least_more : (m n : ℕ) (ks : List ℕ) → m ≤ n → AtLeast n ks → AtLeast m ks
at_least_more m n [] le all = tt
at_least_more m n (k ∷ ks) le all = (omega (arith, le, all.0), at_least_more m n ks le all.1)

above_least : (m : ℕ) (ks : List ℕ) → AtLeast (m + 1) ks → Above m ks
above_least m [] all = tt
above_least m (k ∷ ks) all = (is_less m k (omega (arith, all.0)), above_least m ks all.1)

later_pages : (p : ℕ) (ks : List ℕ) → Above p ks → AllByRecursion (λ q. p * 16 + 16 ≤ q * 16) ks
later_pages p [] above = tt
later_pages p (k ∷ ks) above = (omega (arith, less_is p k above.0), later_pages p ks above.1)

same_test : (m n : ℕ) → nat_eq m n ≡ is_at (nat_cmp n) m
same_test m n = turned m n ∙ sym (at_eq n m)

-- what is at a key isn't at a greater one
not_both : (q n k : ℕ) → k < n → is_at (nat_cmp q) k ≡ true → nat_eq q n ≡ false
not_both q n k less at = ap (λ m. nat_eq m n) (same_is q k (sym (at_eq q k) ∙ at)) ∙ below_apart k n less

laws : IsEquivalence (eq_by_cmp nat_cmp)
laws = eq_by_cmp_equiv nat_cmp_total

module _ {X : Type 0} where
  -- ---- they ascend
  at_least_from : (m n : ℕ) (slots : List (Option X)) (rest : List (ℕ × X)) → m ≤ n → AtLeast m (keys_of rest) → AtLeast m (keys_of (entries_from n slots ++ rest))
  at_least_from m n [] rest le all = all
  at_least_from m n (None ∷ slots) rest le all = at_least_from m (n + 1) slots rest (omega (arith, le)) all
  at_least_from m n (Some v ∷ slots) rest le all = (le, at_least_from m (n + 1) slots rest (omega (arith, le)) all)

  at_least_on : (m : ℕ) (pages : List (ℕ × List (Option X))) → AllByRecursion (λ q. m ≤ q * 16) (keys_of pages) → AtLeast m (keys_of (entries_on pages))
  at_least_on m [] all = tt
  at_least_on m (p ∷ pages) all = at_least_from m (p.0 * 16) p.1 (entries_on pages) all.0 (at_least_on m pages all.1)

  rises_from : (n : ℕ) (slots : List (Option X)) (rest : List (ℕ × X)) → IsSorted rest → AtLeast (n + length slots) (keys_of rest) → IsSorted (entries_from n slots ++ rest)
  unfolding IsStrictlySortedBy
  rises_from n [] rest sorted all = sorted
  rises_from n (None ∷ slots) rest sorted all = rises_from (n + 1) slots rest sorted (at_least_more (n + 1 + length slots) (n + suc (length slots)) (keys_of rest) (omega arith) all)
  rises_from n (Some v ∷ slots) rest sorted all = (
    above_least n (keys_of (entries_from (n + 1) slots ++ rest)) (at_least_from (n + 1) (n + 1) slots rest (omega arith) (at_least_more (n + 1) (n + suc (length slots)) (keys_of rest) (omega arith) all)),
    rises_from (n + 1) slots rest sorted (at_least_more (n + 1 + length slots) (n + suc (length slots)) (keys_of rest) (omega arith) all),
  )

  rises_on : (pages : List (ℕ × List (Option X))) → IsSorted pages → AllByRecursion (λ page. length page.1 ≡ 16) pages → IsSorted (entries_on pages)
  unfolding IsStrictlySortedBy
  rises_on [] sorted long = sorted_none X
  rises_on (p ∷ pages) sorted long =
      rises_from (p.0 * 16) p.1 (entries_on pages) (rises_on pages sorted.1 long.1)
      (at_least_more (p.0 * 16 + length p.1) (p.0 * 16 + 16) (keys_of (entries_on pages)) (omega (arith, long.0)) (at_least_on (p.0 * 16 + 16) pages (later_pages p.0 (keys_of pages) sorted.0)))

  pub ascending : (pages : List (ℕ × List (Option X))) → AreOrdered pages → IsSorted (entries_on pages)
  ascending pages ordered = rises_on pages ordered.order ordered.long

  -- ---- a value came
  twice : (t s : Bool) (a b c : Option X) → t ≡ s → cond t a c ≡ cond s a (cond t b c)
  twice true true a b c same = refl
  twice false false a b c same = refl
  twice true false a b c same = absurd (true≢false same)
  twice false true a b c same = absurd (true≢false (sym same))

  swapped : (t s : Bool) (a b c : Option X) → (t ≡ true → s ≡ false) → cond t a (cond s b c) ≡ cond s b (cond t a c)
  swapped true true a b c apart = absurd (true≢false (apart refl))
  swapped true false a b c apart = refl
  swapped false true a b c apart = refl
  swapped false false a b c apart = refl

  inserted : (n : ℕ) (v : X) (es : List (ℕ × X)) (q : ℕ) → lookup (is_at (nat_cmp q)) (insert_entry nat_cmp es n v) ≡ cond (nat_eq q n) (Some v) (lookup (is_at (nat_cmp q)) es)
  inserted n v [] q = ap (λ t. cond t (Some v) None) (at_eq q n)
  inserted n v (x ∷ es) q = elim (compared n x.0) [
    | inl below ↦ chosen below.order ∙ ap (λ t. cond t (Some v) (lookup (is_at (nat_cmp q)) (x ∷ es))) (at_eq q n)
    | inr rest ↦ elim rest [
      | inl equal ↦ chosen equal.order ∙ twice (is_at (nat_cmp q) x.0) (nat_eq q n) (Some v) (Some x.1) (lookup (is_at (nat_cmp q)) es) (at_eq q x.0 ∙ ap (nat_eq q) (sym equal.same))
      | inr above ↦ chosen above.order ∙ ap (cond (is_at (nat_cmp q) x.0) (Some x.1)) (inserted n v es q)
          ∙ swapped (is_at (nat_cmp q) x.0) (nat_eq q n) (Some x.1) (Some v) (lookup (is_at (nat_cmp q)) es) (not_both q n x.0 above.more)
    ]
  ]
    where
      chosen : {o : Ordering} → nat_cmp n x.0 ≡ o → lookup (is_at (nat_cmp q)) (insert_entry nat_cmp (x ∷ es) n v) ≡ lookup (is_at (nat_cmp q)) (match_ordering o ((n, v) ∷ x ∷ es) ((x.0, v) ∷ es) (x ∷ insert_entry nat_cmp es n v))
      chosen e = ap (λ o. lookup (is_at (nat_cmp q)) (match_ordering o ((n, v) ∷ x ∷ es) ((x.0, v) ∷ es) (x ∷ insert_entry nat_cmp es n v))) e

  -- what is told of each number is told of one
  told : (n : ℕ) (m new : PagedMap X) (w : Option X) → ((q : ℕ) → value_at q new ≡ cond (is_at (nat_cmp n) q) w (value_at q m)) → Updates n m new w
  told n m new w each = (each, each n ∙ ap (λ t. cond t w (value_at n m)) (laws.refl n))

  pub updated_in : (n : ℕ) (v : X) (m new : PagedMap X) → new.entries ≡ insert_entry nat_cmp m.entries n v → Updates n m new (Some v)
  updated_in n v m new is = told n m new (Some v) (λ q.
      ap (lookup (is_at (nat_cmp q))) is ∙ inserted n v m.entries q ∙ ap (λ t. cond t (Some v) (value_at q m)) (same_test q n))

  -- ---- one changed
  pub written_through : (n : ℕ) (w : X) (m new : PagedMap X) → new.entries ≡ set_value (is_at (nat_cmp n)) m.entries w → IsSorted new.entries → WritesThrough n m w new
  written_through n w m new is sorted = (
    is,
    ap keys_of is ∙ keys-set_value (is_at (nat_cmp n)) m.entries w,
    ap length is ∙ length-set_value (is_at (nat_cmp n)) m.entries w,
    λ some. told n m new (Some w) (λ q. ap (lookup (is_at (nat_cmp q))) is ∙ lookup-set_value laws (is_at (nat_cmp n)) (λ x y h. laws.congr n x y h) q w m.entries some),
    sorted,
  )

  none_set : (test : ℕ → Bool) (w : X) (es : List (ℕ × X)) → lookup test es ≡ None → es ≡ set_value test es w
  none_set test w [] none = refl
  none_set test w (e ∷ es) none = by_test (test e.0) none (none_set test w es)
    where
      by_test : (t : Bool) → cond t (Some e.1) (lookup test es) ≡ None → (lookup test es ≡ None → es ≡ set_value test es w) → e ∷ es ≡ cond t ((e.0, w) ∷ es) (e ∷ set_value test es w)
      by_test true some rest = absurd (true≢false (ap is_some some))
      by_test false none rest = ap (λ l. e ∷ l) (rest none)

  -- none did, where the number has no value
  pub unwritten : (n : ℕ) (w : X) (m new : PagedMap X) → new ≡ m → value_at n m ≡ None → IsSorted new.entries → WritesThrough n m w new
  unwritten n w m new is none sorted = written_through n w m new (ap (λ (k : PagedMap X). k.entries) is ∙ none_set (is_at (nat_cmp n)) w m.entries none) sorted

  -- ---- one went
  pub updated_out : (n : ℕ) (m new : PagedMap X) → IsSorted m.entries → new.entries ≡ remove_entry (is_at (nat_cmp n)) m.entries → Updates n m new None
  updated_out n m new sorted is = told n m new None (λ q.
      ap (lookup (is_at (nat_cmp q))) is
      ∙ lookup-remove_entry laws (is_at (nat_cmp n)) (λ x y h. laws.congr n x y h) q m.entries (IsDistinct-from_sorted nat_cmp (keys_of m.entries) sorted))

  -- ---- each number stays below another
  pub below_none : (bound : ℕ) (pages : List (ℕ × List (Option X))) → pages ≡ [] → AreBelow bound (entries_on pages)
  below_none bound pages is = subst (λ l. AreBelow bound (entries_on l)) (sym is) (λ k d within. absurd (omega (arith, within)))

  pub below_same : (bound : ℕ) (es new : List (ℕ × X)) → AreBelow bound es → new ≡ es → AreBelow bound new
  below_same bound es new all is = subst (AreBelow bound) (sym is) all

  pub below_inserted : (bound n : ℕ) (v : X) (es new : List (ℕ × X)) → AreBelow bound es → n < bound → new ≡ insert_entry nat_cmp es n v → AreBelow bound new
  below_inserted bound n v es new all less is = subst (AreBelow bound) (sym is) (All-keys-insert_entry nat_cmp n v (λ k. k < bound) es all less)

  pub below_set : (bound n : ℕ) (w : X) (es new : List (ℕ × X)) → AreBelow bound es → new ≡ set_value (is_at (nat_cmp n)) es w → AreBelow bound new
  below_set bound n w es new all is = subst (λ ks. All (λ k. k < bound) ks) (sym (ap keys_of is ∙ keys-set_value (is_at (nat_cmp n)) es w)) all

  pub below_removed : (bound n : ℕ) (es new : List (ℕ × X)) → AreBelow bound es → new ≡ remove_entry (is_at (nat_cmp n)) es → AreBelow bound new
  below_removed bound n es new all is = subst (AreBelow bound) (sym is) (All-map-remove_entry (is_at (nat_cmp n)) (λ e. e.0) (λ k. k < bound) es all)

  pub each_below : (bound n : ℕ) (es : List (ℕ × X)) → AreBelow bound es → has (keys_of es) n ≡ true → n < bound
  each_below bound n es all there = found (keys_of es) all there
    where
      found : (ks : List ℕ) → All (λ k. k < bound) ks → has ks n ≡ true → n < bound
      found [] all there = absurd (true≢false (sym there))
      found (k ∷ ks) all there = by_test (nat_eq n k) refl there (found ks (λ i d within. all (suc i) d (omega (arith, within))))
        where
          by_test : (t : Bool) → nat_eq n k ≡ t → (t || has ks n) ≡ true → (has ks n ≡ true → n < bound) → n < bound
          by_test true is there rest = omega (arith, same_is n k is, all 0 k (omega arith))
          by_test false is there rest = rest there
