-- The values of one page: which number has which, and what a slot does that is written.
use Rattle.number_set.proofs.Tests.{above_apart, at_apart, at_here, below_apart, is_less}
use Rattle.paged_map.specs.Pages.{entries_from}
use Rattle.std.proofs.Common.{ap, arith, cond, get_or, refl, set, subst, sym, true≢false, ◌∙◌}
use Rattle.std.proofs.lemmas.Bool.Decides.{nat_tests}
use Rattle.std.proofs.lemmas.List.{get_or_past}
use Rattle.std.proofs.lemmas.List.Sums.{sum_by-cons}
use Rattle.std.specs.BTreeMap.{insert_entry, is_at}
use Rattle.std.specs.Map.{lookup, remove_entry, set_value}
use Rattle.std.specs.Ordering.{match_ordering, nat_cmp}
use Rattle.std.specs.Prelude.{Bool, List, None, Option, Some, [], count_by, false, is_some, length, suc, true, zero, ℕ, ◌+◌, ◌++◌, ◌-◌, ◌<◌, ◌∷◌, ◌≡◌, ◌≤◌}
use Rattle.std.specs.declared.cmp.Ordering.TheVariants.{Equal, Greater}

is_equal : (m n : ℕ) → m ≡ n → nat_cmp m n ≡ Equal
is_equal m n h = grind (arith, nat_tests)

is_greater : (m n : ℕ) → n < m → nat_cmp m n ≡ Greater
is_greater m n h = grind (arith, nat_tests)

-- one slot further
shift : (n i : ℕ) → n + suc i ≡ n + 1 + i
shift n i = omega arith

-- no value is there
pub has_none : {A : Type 0} (o : Option A) → is_some o ≡ false → o ≡ None
has_none None none = refl
has_none (Some x) none = absurd (true≢false none)

module _ {X : Type 0} where
  -- ---- lists put together
  pub lookup_rest : (test : ℕ → Bool) (es fs : List (ℕ × X)) → lookup test fs ≡ None → lookup test (es ++ fs) ≡ lookup test es
  lookup_rest test [] fs none = none
  lookup_rest test (a ∷ es) fs none = ap (cond (test a.0) (Some a.1)) (lookup_rest test es fs none)

  -- the first list has none
  none_here : (b : Bool) (a : ℕ × X) (o : Option X) → cond b (Some a.1) o ≡ None → b ≡ false
  none_here true a o none = absurd (true≢false (ap is_some none))
  none_here false a o none = refl

  none_behind : (b : Bool) (a : ℕ × X) (o : Option X) → cond b (Some a.1) o ≡ None → o ≡ None
  none_behind true a o none = absurd (true≢false (ap is_some none))
  none_behind false a o none = none

  pub lookup_past : (test : ℕ → Bool) (es fs : List (ℕ × X)) → lookup test es ≡ None → lookup test (es ++ fs) ≡ lookup test fs
  lookup_past test [] fs none = refl
  lookup_past test (a ∷ es) fs none =
      ap (λ t. cond t (Some a.1) (lookup test (es ++ fs))) (none_here (test a.0) a (lookup test es) none)
      ∙ lookup_past test es fs (none_behind (test a.0) a (lookup test es) none)

  pub remove_past : (test : ℕ → Bool) (es fs : List (ℕ × X)) → lookup test es ≡ None → remove_entry test (es ++ fs) ≡ es ++ remove_entry test fs
  remove_past test [] fs none = refl
  remove_past test (a ∷ es) fs none =
      ap (λ t. cond t (es ++ fs) (a ∷ remove_entry test (es ++ fs))) (none_here (test a.0) a (lookup test es) none)
      ∙ ap (λ l. a ∷ l) (remove_past test es fs (none_behind (test a.0) a (lookup test es) none))

  pub remove_none : (test : ℕ → Bool) (es : List (ℕ × X)) → lookup test es ≡ None → es ≡ remove_entry test es
  remove_none test [] none = refl
  remove_none test (a ∷ es) none =
      ap (λ l. a ∷ l) (remove_none test es (none_behind (test a.0) a (lookup test es) none))
      ∙ sym (ap (λ t. cond t es (a ∷ remove_entry test es)) (none_here (test a.0) a (lookup test es) none))

  pub set_past : (test : ℕ → Bool) (w : X) (es fs : List (ℕ × X)) → lookup test es ≡ None → set_value test (es ++ fs) w ≡ es ++ set_value test fs w
  set_past test w [] fs none = refl
  set_past test w (a ∷ es) fs none =
      ap (λ t. cond t ((a.0, w) ∷ es ++ fs) (a ∷ set_value test (es ++ fs) w)) (none_here (test a.0) a (lookup test es) none)
      ∙ ap (λ l. a ∷ l) (set_past test w es fs (none_behind (test a.0) a (lookup test es) none))

  -- ---- what a number has
  pub length_from : (n : ℕ) (slots : List (Option X)) → length (entries_from n slots) ≡ count_by is_some slots
  length_from n [] = refl
  length_from n (None ∷ slots) = omega (arith, length_from (n + 1) slots, sum_by-cons (λ o. cond (is_some o) 1 0) None slots)
  length_from n (Some v ∷ slots) = omega (arith, length_from (n + 1) slots, sum_by-cons (λ o. cond (is_some o) 1 0) (Some v) slots)

  pub lookup_below : (k n : ℕ) (slots : List (Option X)) → k < n → lookup (is_at (nat_cmp k)) (entries_from n slots) ≡ None
  lookup_below k n [] less = refl
  lookup_below k n (None ∷ slots) less = lookup_below k (n + 1) slots (omega (arith, less))
  lookup_below k n (Some v ∷ slots) less =
      ap (λ t. cond t (Some v) (lookup (is_at (nat_cmp k)) (entries_from (n + 1) slots))) (at_apart k n (below_apart k n less))
      ∙ lookup_below k (n + 1) slots (omega (arith, less))

  pub lookup_from : (n i : ℕ) (slots : List (Option X)) → lookup (is_at (nat_cmp (n + i))) (entries_from n slots) ≡ get_or slots i None
  lookup_from n i [] = refl
  lookup_from n zero (None ∷ slots) = lookup_below (n + 0) (n + 1) slots (omega arith)
  lookup_from n zero (Some v ∷ slots) = ap (λ t. cond t (Some v) (lookup (is_at (nat_cmp (n + 0))) (entries_from (n + 1) slots))) (at_here (n + 0) n (omega arith))
  lookup_from n (suc i) (None ∷ slots) = ap (λ k. lookup (is_at (nat_cmp k)) (entries_from (n + 1) slots)) (shift n i) ∙ lookup_from (n + 1) i slots
  lookup_from n (suc i) (Some v ∷ slots) =
      ap (λ t. cond t (Some v) (lookup (is_at (nat_cmp (n + suc i))) (entries_from (n + 1) slots))) (at_apart (n + suc i) n (above_apart (n + suc i) n (omega arith)))
      ∙ ap (λ k. lookup (is_at (nat_cmp k)) (entries_from (n + 1) slots)) (shift n i) ∙ lookup_from (n + 1) i slots

  pub lookup_beyond : (k n : ℕ) (slots : List (Option X)) → n + length slots ≤ k → lookup (is_at (nat_cmp k)) (entries_from n slots) ≡ None
  lookup_beyond k n slots far =
      ap (λ m. lookup (is_at (nat_cmp m)) (entries_from n slots)) (apart k n slots far)
      ∙ lookup_from n (k - n) slots ∙ get_or_past slots (k - n) None (omega (arith, far))
    where
      apart : (k n : ℕ) (slots : List (Option X)) → n + length slots ≤ k → k ≡ n + (k - n)
      apart k n slots far = omega (arith, far)

  -- ---- a slot without a value gets one
  pub insert_past : (k n : ℕ) (v : X) (slots : List (Option X)) (rest : List (ℕ × X)) → n + length slots ≤ k
      → insert_entry nat_cmp (entries_from n slots ++ rest) k v ≡ entries_from n slots ++ insert_entry nat_cmp rest k v
  insert_past k n v [] rest far = refl
  insert_past k n v (None ∷ slots) rest far = insert_past k (n + 1) v slots rest (omega (arith, far))
  insert_past k n v (Some x ∷ slots) rest far =
      ap (λ o. match_ordering o ((k, v) ∷ (n, x) ∷ entries_from (n + 1) slots ++ rest) ((n, v) ∷ entries_from (n + 1) slots ++ rest) ((n, x) ∷ insert_entry nat_cmp (entries_from (n + 1) slots ++ rest) k v)) (is_greater k n (omega (arith, far)))
      ∙ ap (λ l. (n, x) ∷ l) (insert_past k (n + 1) v slots rest (omega (arith, far)))

  pub insert_before : (k n : ℕ) (v : X) (slots : List (Option X)) (rest : List (ℕ × X)) → k < n → insert_entry nat_cmp rest k v ≡ (k, v) ∷ rest
      → insert_entry nat_cmp (entries_from n slots ++ rest) k v ≡ (k, v) ∷ entries_from n slots ++ rest
  insert_before k n v [] rest less first = first
  insert_before k n v (None ∷ slots) rest less first = insert_before k (n + 1) v slots rest (omega (arith, less)) first
  insert_before k n v (Some x ∷ slots) rest less first =
      ap (λ o. match_ordering o ((k, v) ∷ (n, x) ∷ entries_from (n + 1) slots ++ rest) ((n, v) ∷ entries_from (n + 1) slots ++ rest) ((n, x) ∷ insert_entry nat_cmp (entries_from (n + 1) slots ++ rest) k v)) (is_less k n less)

  -- a slot gets a value, whether it had one or not
  pub insert_from : (n i : ℕ) (v : X) (slots : List (Option X)) (rest : List (ℕ × X)) → i < length slots → insert_entry nat_cmp rest (n + i) v ≡ (n + i, v) ∷ rest
      → entries_from n (set slots i (Some v)) ++ rest ≡ insert_entry nat_cmp (entries_from n slots ++ rest) (n + i) v
  insert_from n i v [] rest within first = absurd (omega (arith, within))
  insert_from n zero v (None ∷ slots) rest within first =
      ap (λ m. (m, v) ∷ entries_from (n + 1) slots ++ rest) (begin n) ∙ sym (insert_before (n + 0) (n + 1) v slots rest (omega arith) first)
    where
      begin : (n : ℕ) → n ≡ n + 0
      begin n = omega arith
  insert_from n zero v (Some x ∷ slots) rest within first =
      sym (ap (λ o. match_ordering o ((n + 0, v) ∷ (n, x) ∷ entries_from (n + 1) slots ++ rest) ((n, v) ∷ entries_from (n + 1) slots ++ rest) ((n, x) ∷ insert_entry nat_cmp (entries_from (n + 1) slots ++ rest) (n + 0) v)) (is_equal (n + 0) n (omega arith)))
  insert_from n (suc i) v (None ∷ slots) rest within first =
      insert_from (n + 1) i v slots rest (omega (arith, within)) (subst (λ k. insert_entry nat_cmp rest k v ≡ (k, v) ∷ rest) (shift n i) first)
      ∙ ap (λ k. insert_entry nat_cmp (entries_from (n + 1) slots ++ rest) k v) (sym (shift n i))
  insert_from n (suc i) v (Some x ∷ slots) rest within first =
      ap (λ l. (n, x) ∷ l) (insert_from (n + 1) i v slots rest (omega (arith, within)) (subst (λ k. insert_entry nat_cmp rest k v ≡ (k, v) ∷ rest) (shift n i) first)
      ∙ ap (λ k. insert_entry nat_cmp (entries_from (n + 1) slots ++ rest) k v) (sym (shift n i)))
      ∙ sym (ap (λ o. match_ordering o ((n + suc i, v) ∷ (n, x) ∷ entries_from (n + 1) slots ++ rest) ((n, v) ∷ entries_from (n + 1) slots ++ rest) ((n, x) ∷ insert_entry nat_cmp (entries_from (n + 1) slots ++ rest) (n + suc i) v)) (is_greater (n + suc i) n (omega arith)))

  -- ---- a slot with a value gets another one, or none
  pub set_from : (n i : ℕ) (w : X) (slots : List (Option X)) (rest : List (ℕ × X)) → is_some (get_or slots i None) ≡ true
      → entries_from n (set slots i (Some w)) ++ rest ≡ set_value (is_at (nat_cmp (n + i))) (entries_from n slots ++ rest) w
  set_from n i w [] rest some = absurd (true≢false (sym some))
  set_from n zero w (None ∷ slots) rest some = absurd (true≢false (sym some))
  set_from n zero w (Some x ∷ slots) rest some =
      sym (ap (λ t. cond t ((n, w) ∷ entries_from (n + 1) slots ++ rest) ((n, x) ∷ set_value (is_at (nat_cmp (n + 0))) (entries_from (n + 1) slots ++ rest) w)) (at_here (n + 0) n (omega arith)))
  set_from n (suc i) w (None ∷ slots) rest some =
      set_from (n + 1) i w slots rest some ∙ ap (λ k. set_value (is_at (nat_cmp k)) (entries_from (n + 1) slots ++ rest) w) (sym (shift n i))
  set_from n (suc i) w (Some x ∷ slots) rest some =
      ap (λ l. (n, x) ∷ l) (set_from (n + 1) i w slots rest some ∙ ap (λ k. set_value (is_at (nat_cmp k)) (entries_from (n + 1) slots ++ rest) w) (sym (shift n i)))
      ∙ sym (ap (λ t. cond t ((n, w) ∷ entries_from (n + 1) slots ++ rest) ((n, x) ∷ set_value (is_at (nat_cmp (n + suc i))) (entries_from (n + 1) slots ++ rest) w)) (at_apart (n + suc i) n (above_apart (n + suc i) n (omega arith))))

  pub remove_from : (n i : ℕ) (slots : List (Option X)) (rest : List (ℕ × X)) → is_some (get_or slots i None) ≡ true
      → entries_from n (set slots i None) ++ rest ≡ remove_entry (is_at (nat_cmp (n + i))) (entries_from n slots ++ rest)
  remove_from n i [] rest some = absurd (true≢false (sym some))
  remove_from n zero (None ∷ slots) rest some = absurd (true≢false (sym some))
  remove_from n zero (Some x ∷ slots) rest some =
      sym (ap (λ t. cond t (entries_from (n + 1) slots ++ rest) ((n, x) ∷ remove_entry (is_at (nat_cmp (n + 0))) (entries_from (n + 1) slots ++ rest))) (at_here (n + 0) n (omega arith)))
  remove_from n (suc i) (None ∷ slots) rest some =
      remove_from (n + 1) i slots rest some ∙ ap (λ k. remove_entry (is_at (nat_cmp k)) (entries_from (n + 1) slots ++ rest)) (sym (shift n i))
  remove_from n (suc i) (Some x ∷ slots) rest some =
      ap (λ l. (n, x) ∷ l) (remove_from (n + 1) i slots rest some ∙ ap (λ k. remove_entry (is_at (nat_cmp k)) (entries_from (n + 1) slots ++ rest)) (sym (shift n i)))
      ∙ sym (ap (λ t. cond t (entries_from (n + 1) slots ++ rest) ((n, x) ∷ remove_entry (is_at (nat_cmp (n + suc i))) (entries_from (n + 1) slots ++ rest))) (at_apart (n + suc i) n (above_apart (n + suc i) n (omega arith))))
