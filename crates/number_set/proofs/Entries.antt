-- What an entry in order is found by, and what one does that comes, changes or goes.
use Rattle.std.proofs.Common.{ap, arith, cond, inl, inr, refl, subst, sym, ◌∙◌}
use Rattle.std.proofs.Math.ListN.{get_or, set}
use Rattle.std.proofs.lemmas.Bool.{false≢true}
use Rattle.std.proofs.lemmas.List.{length-set}
use Rattle.std.proofs.lemmas.List.Edits.{length-insert}
use Rattle.std.proofs.lemmas.List.Sorted.{IsPartitionedBy-ltb}
use Rattle.std.proofs.lemmas.Map.Keys.{below_from_sorted, sorted_tail}
use Rattle.std.specs.BTreeMap.{insert_entry, is_at}
use Rattle.std.specs.BTreeSet.{insert_key}
use Rattle.std.specs.List.{insert, remove}
use Rattle.std.specs.List.Sorted.{IsNonDecreasingBy, IsPartitionPoint, IsPartitionedBy, IsStrictlySortedBy}
use Rattle.std.specs.Map.{keys_of, lookup, remove_entry, set_value}
use Rattle.std.specs.Ordering.{match_ordering, nat_cmp}
use Rattle.std.specs.Prelude.{Bool, IsNone, IsSome, List, None, Option, Some, [], drop, false, is_some, length, nat_eq, nat_lt, suc, true, zero, ℕ, ◌+◌, ◌-◌, ◌<◌, ◌∷◌, ◌≡◌, ◌≤◌}
use Rattle.std.specs.Set.{remove_key}
use Rattle.std.specs.declared.cmp.Ordering.{Ordering}
use Rattle.std.specs.declared.cmp.Ordering.TheVariants.{Equal, Greater, Less}
use Rattle.std.proofs.lemmas.Bool.Decides.{nat_tests}
use borrow.Author.Tests.{ltb-false, ltb-true}
use Rattle.number_set.proofs.Sorted.{rises_insert, rises_marked}
use Rattle.number_set.proofs.Tests.{above_apart, at_apart, at_eq, at_here, below_apart, compared, here, is_less, same_is, same_or_apart}
use Rattle.number_set.specs.NumberMap.{IsAt, IsBelow, IsGap, IsSorted, Puts, one_if, value_of}
use Rattle.number_set.specs.NumberSet.{Rises}

is_equal : (m n : ℕ) → m ≡ n → nat_cmp m n ≡ Equal
is_equal m n h = grind (arith, nat_tests)

is_greater : (m n : ℕ) → n < m → nat_cmp m n ≡ Greater
is_greater m n h = grind (arith, nat_tests)

-- the place before another, if there is one
back : ℕ → ℕ
back zero = zero
back (suc i) = i

-- what is at a key isn't at a lesser or greater one
not_both : (q n k : ℕ) → nat_eq n k ≡ false → is_at (nat_cmp q) k ≡ true → nat_eq q n ≡ false
not_both q n k apart at = ap (λ m. nat_eq m n) (same_is q k (sym (at_eq q k) ∙ at)) ∙ grind (arith, nat_tests)

pub sorted_none : (X : Type 0) → IsSorted {X = X} []
unfolding IsStrictlySortedBy
sorted_none X = tt

module _ {X : Type 0} where
  -- the key that stands at a place
  pub key_at : (es : List (ℕ × X)) (i : ℕ) (e : ℕ × X) → i < length es → e ≡ get_or es i e → get_or (keys_of es) i 0 ≡ e.0
  key_at [] i e within is = absurd (omega (arith, within))
  key_at (x ∷ es) zero e within is = ap (λ (p : ℕ × X). p.0) (sym is)
  key_at (x ∷ es) (suc i) e within is = key_at es i e (omega (arith, within)) is

  at_rest : (number i : ℕ) (x : ℕ × X) (es : List (ℕ × X)) → IsAt number (suc i) (x ∷ es) → IsAt number i es
  at_rest number i x es at = record { within = omega (arith, at.within); before = λ k less. at.before (suc k) (omega (arith, less)); is = at.is }

  gap_rest : (number i : ℕ) (x : ℕ × X) (es : List (ℕ × X)) → IsGap number (suc i) (x ∷ es) → IsGap number i es
  gap_rest number i x es gap = record {
    within = omega (arith, gap.within);
    before = λ k less. gap.before (suc k) (omega (arith, less));
    after = λ k from last. gap.after (suc k) (omega (arith, from)) (omega (arith, last));
  }

  gap_past : (number : ℕ) (x : ℕ × X) (es : List (ℕ × X)) → IsGap number zero (x ∷ es) → IsGap number zero es
  gap_past number x es gap = record {
    within = omega arith;
    before = λ k less. absurd (omega (arith, less));
    after = λ k from last. gap.after (suc k) (omega arith) (omega (arith, last));
  }

  -- ---- where it stands
  pub lookup_at : (number i : ℕ) (e : ℕ × X) (es : List (ℕ × X)) → IsAt number i es → e ≡ get_or es i e → lookup (is_at (nat_cmp number)) es ≡ Some e.1
  lookup_at number i e [] at is = absurd (omega (arith, at.within))
  lookup_at number zero e (x ∷ es) at is =
      ap (λ t. cond t (Some x.1) (lookup (is_at (nat_cmp number)) es)) (at_here number x.0 (sym at.is)) ∙ ap (λ (p : ℕ × X). Some p.1) (sym is)
  lookup_at number (suc i) e (x ∷ es) at is =
      ap (λ t. cond t (Some x.1) (lookup (is_at (nat_cmp number)) es)) (at_apart number x.0 (above_apart number x.0 (at.before zero (omega arith))))
      ∙ lookup_at number i e es (at_rest number i x es at) is

  pub set_at : (number i : ℕ) (v : X) (es : List (ℕ × X)) → IsAt number i es → set es i (number, v) ≡ set_value (is_at (nat_cmp number)) es v
  set_at number i v [] at = absurd (omega (arith, at.within))
  set_at number zero v (x ∷ es) at =
      ap (λ (n : ℕ). (n, v) ∷ es) (sym at.is) ∙ sym (ap (λ t. cond t ((x.0, v) ∷ es) (x ∷ set_value (is_at (nat_cmp number)) es v)) (at_here number x.0 (sym at.is)))
  set_at number (suc i) v (x ∷ es) at =
      ap (λ l. x ∷ l) (set_at number i v es (at_rest number i x es at))
      ∙ sym (ap (λ t. cond t ((x.0, v) ∷ es) (x ∷ set_value (is_at (nat_cmp number)) es v)) (at_apart number x.0 (above_apart number x.0 (at.before zero (omega arith)))))

  pub insert_at : (number i : ℕ) (v : X) (es : List (ℕ × X)) → IsAt number i es → set es i (number, v) ≡ insert_entry nat_cmp es number v
  insert_at number i v [] at = absurd (omega (arith, at.within))
  insert_at number zero v (x ∷ es) at =
      ap (λ (n : ℕ). (n, v) ∷ es) (sym at.is)
      ∙ sym (ap (λ o. match_ordering o ((number, v) ∷ x ∷ es) ((x.0, v) ∷ es) (x ∷ insert_entry nat_cmp es number v)) (is_equal number x.0 (sym at.is)))
  insert_at number (suc i) v (x ∷ es) at =
      ap (λ l. x ∷ l) (insert_at number i v es (at_rest number i x es at))
      ∙ sym (ap (λ o. match_ordering o ((number, v) ∷ x ∷ es) ((x.0, v) ∷ es) (x ∷ insert_entry nat_cmp es number v)) (is_greater number x.0 (at.before zero (omega arith))))

  pub remove_at : (number i : ℕ) (es : List (ℕ × X)) → IsAt number i es → remove es i ≡ remove_entry (is_at (nat_cmp number)) es
  remove_at number i [] at = absurd (omega (arith, at.within))
  remove_at number zero (x ∷ es) at = sym (ap (λ t. cond t es (x ∷ remove_entry (is_at (nat_cmp number)) es)) (at_here number x.0 (sym at.is)))
  remove_at number (suc i) (x ∷ es) at =
      ap (λ l. x ∷ l) (remove_at number i es (at_rest number i x es at))
      ∙ sym (ap (λ t. cond t es (x ∷ remove_entry (is_at (nat_cmp number)) es)) (at_apart number x.0 (above_apart number x.0 (at.before zero (omega arith)))))

  -- ---- where it isn't there
  other : (number i : ℕ) (x : ℕ × X) (es : List (ℕ × X)) → IsGap number i (x ∷ es) → is_at (nat_cmp number) x.0 ≡ false
  other number zero x es gap = at_apart number x.0 (below_apart number x.0 (gap.after zero (omega arith) (omega arith)))
  other number (suc i) x es gap = at_apart number x.0 (above_apart number x.0 (gap.before zero (omega arith)))

  rest : (number i : ℕ) (x : ℕ × X) (es : List (ℕ × X)) → IsGap number i (x ∷ es) → IsGap number (back i) es
  unfolding back
  rest number zero x es gap = gap_past number x es gap
  rest number (suc i) x es gap = gap_rest number i x es gap

  pub lookup_gap : (number i : ℕ) (es : List (ℕ × X)) → IsGap number i es → lookup (is_at (nat_cmp number)) es ≡ None
  lookup_gap number i [] gap = refl
  lookup_gap number i (x ∷ es) gap = ap (λ t. cond t (Some x.1) (lookup (is_at (nat_cmp number)) es)) (other number i x es gap) ∙ lookup_gap number (back i) es (rest number i x es gap)

  pub set_gap : (number i : ℕ) (v : X) (es : List (ℕ × X)) → IsGap number i es → es ≡ set_value (is_at (nat_cmp number)) es v
  set_gap number i v [] gap = refl
  set_gap number i v (x ∷ es) gap =
      ap (λ l. x ∷ l) (set_gap number (back i) v es (rest number i x es gap)) ∙ sym (ap (λ t. cond t ((x.0, v) ∷ es) (x ∷ set_value (is_at (nat_cmp number)) es v)) (other number i x es gap))

  pub remove_gap : (number i : ℕ) (es : List (ℕ × X)) → IsGap number i es → es ≡ remove_entry (is_at (nat_cmp number)) es
  remove_gap number i [] gap = refl
  remove_gap number i (x ∷ es) gap =
      ap (λ l. x ∷ l) (remove_gap number (back i) es (rest number i x es gap)) ∙ sym (ap (λ t. cond t es (x ∷ remove_entry (is_at (nat_cmp number)) es)) (other number i x es gap))

  pub insert_gap : (number i : ℕ) (v : X) (es : List (ℕ × X)) → IsGap number i es → insert es i (number, v) ≡ insert_entry nat_cmp es number v
  insert_gap number zero v [] gap = refl
  insert_gap number (suc i) v [] gap = absurd (omega (arith, gap.within))
  insert_gap number zero v (x ∷ es) gap =
      sym (ap (λ o. match_ordering o ((number, v) ∷ x ∷ es) ((x.0, v) ∷ es) (x ∷ insert_entry nat_cmp es number v)) (is_less number x.0 (gap.after zero (omega arith) (omega arith))))
  insert_gap number (suc i) v (x ∷ es) gap =
      ap (λ l. x ∷ l) (insert_gap number i v es (gap_rest number i x es gap))
      ∙ sym (ap (λ o. match_ordering o ((number, v) ∷ x ∷ es) ((x.0, v) ∷ es) (x ∷ insert_entry nat_cmp es number v)) (is_greater number x.0 (gap.before zero (omega arith))))

  -- ---- they stay in order
  pub keys_inserted : (number : ℕ) (v : X) (es : List (ℕ × X)) → keys_of (insert_entry nat_cmp es number v) ≡ insert_key nat_cmp (keys_of es) number
  keys_inserted number v [] = refl
  keys_inserted number v (x ∷ es) = by_order (nat_cmp number x.0) (keys_inserted number v es)
    where
      by_order : (o : Ordering) → keys_of (insert_entry nat_cmp es number v) ≡ insert_key nat_cmp (keys_of es) number → keys_of (match_ordering o ((number, v) ∷ x ∷ es) ((x.0, v) ∷ es) (x ∷ insert_entry nat_cmp es number v)) ≡ match_ordering o (number ∷ x.0 ∷ keys_of es) (x.0 ∷ keys_of es) (x.0 ∷ insert_key nat_cmp (keys_of es) number)
      by_order Less is = refl
      by_order Equal is = refl
      by_order Greater is = ap (λ l. x.0 ∷ l) is

  pub keys_removed : (test : ℕ → Bool) (es : List (ℕ × X)) → keys_of (remove_entry test es) ≡ remove_key test (keys_of es)
  keys_removed test [] = refl
  keys_removed test (x ∷ es) = by_test (test x.0) (keys_removed test es)
    where
      by_test : (t : Bool) → keys_of (remove_entry test es) ≡ remove_key test (keys_of es) → keys_of (cond t es (x ∷ remove_entry test es)) ≡ cond t (keys_of es) (x.0 ∷ remove_key test (keys_of es))
      by_test true is = refl
      by_test false is = ap (λ l. x.0 ∷ l) is

  keys_set : (test : ℕ → Bool) (v : X) (es : List (ℕ × X)) → keys_of (set_value test es v) ≡ keys_of es
  keys_set test v [] = refl
  keys_set test v (x ∷ es) = by_test (test x.0) (keys_set test v es)
    where
      by_test : (t : Bool) → keys_of (set_value test es v) ≡ keys_of es → keys_of (cond t ((x.0, v) ∷ es) (x ∷ set_value test es v)) ≡ x.0 ∷ keys_of es
      by_test true is = refl
      by_test false is = ap (λ l. x.0 ∷ l) is

  pub sorted_inserted : (number : ℕ) (v : X) (es new : List (ℕ × X)) → IsSorted es → new ≡ insert_entry nat_cmp es number v → IsSorted new
  sorted_inserted number v es new sorted is = subst Rises (sym (ap keys_of is ∙ keys_inserted number v es)) (rises_insert (keys_of es) number sorted)

  pub sorted_removed : (number : ℕ) (es new : List (ℕ × X)) → IsSorted es → new ≡ remove_entry (is_at (nat_cmp number)) es → IsSorted new
  sorted_removed number es new sorted is = subst Rises (sym (ap keys_of is ∙ keys_removed (is_at (nat_cmp number)) es)) (rises_marked (keys_of es) number false sorted)

  pub sorted_rest : (es new : List (ℕ × X)) → IsSorted es → new ≡ drop 1 es → IsSorted new
  sorted_rest [] new sorted is = subst IsSorted (sym is) (sorted_none X)
  sorted_rest (x ∷ es) new sorted is = subst IsSorted (sym is) (sorted_tail nat_cmp x.0 (keys_of es) sorted)

  pub sorted_set : (number : ℕ) (v : X) (es new : List (ℕ × X)) → IsSorted es → new ≡ set_value (is_at (nat_cmp number)) es v → IsSorted new
  sorted_set number v es new sorted is = subst Rises (sym (ap keys_of is ∙ keys_set (is_at (nat_cmp number)) v es)) sorted

  -- ---- how many are below
  long : (es : List (ℕ × X)) → length (keys_of es) ≡ length es
  long [] = refl
  long (x ∷ es) = ap suc (long es)

  -- a key read at a place is that of the entry there, whatever is read past the end
  key_read : (es : List (ℕ × X)) (i : ℕ) (d : ℕ × X) → i < length es → (get_or es i d).0 ≡ get_or (keys_of es) i 0
  key_read [] i d within = absurd (omega (arith, within))
  key_read (x ∷ es) zero d within = refl
  key_read (x ∷ es) (suc i) d within = key_read es i d (omega (arith, within))

  keys_rise : (es : List (ℕ × X)) → IsSorted es → (i j : ℕ) → i < j → j < length es → get_or (keys_of es) i 0 < get_or (keys_of es) j 0
  keys_rise es sorted i j less last = below_from_sorted (keys_of es) i j 0 sorted less (omega (arith, last, long es))

  keys_far : (es : List (ℕ × X)) → IsSorted es → (i j : ℕ) → i ≤ j → j < length es → get_or (keys_of es) i 0 ≤ get_or (keys_of es) j 0
  keys_far es sorted i j le last = elim (same_or_apart i j) [
    | inl same ↦ omega (arith, ap (λ n. get_or (keys_of es) n 0) same)
    | inr apart ↦ omega (arith, keys_rise es sorted i j (less i j le apart) last)
  ]
    where
      less : (m n : ℕ) → m ≤ n → nat_eq m n ≡ false → m < n
      less m n h e = grind (arith, nat_tests)

  non_decreasing : (es : List (ℕ × X)) → IsSorted es → IsNonDecreasingBy (λ (e : ℕ × X). e.0) es
  non_decreasing es sorted i j d le last = omega (arith, key_read es i d (omega (arith, le, last)), key_read es j d last, keys_far es sorted i j le last)

  pub parted : (number : ℕ) (es : List (ℕ × X)) → IsSorted es → IsPartitionedBy (λ (e : ℕ × X). nat_lt e.0 number) es
  parted number es sorted = IsPartitionedBy-ltb (λ (e : ℕ × X). e.0) es number (non_decreasing es sorted)

  pub below_point : (number i : ℕ) (es : List (ℕ × X)) → i ≤ length es
      → IsPartitionPoint (λ (e : ℕ × X). nat_lt e.0 number ≡ true) (λ (e : ℕ × X). nat_lt e.0 number ≡ false) es i → IsBelow number i es
  below_point number i [] within point = record { within = within; before = λ k less. absurd (omega (arith, within, less)); after = λ k from last. absurd (omega (arith, last)) }
  below_point number i (x ∷ es) within point = record {
    within = within;
    before = λ k less. omega (arith, ltb-true _ number (point.0 k x (omega arith) less), key_read (x ∷ es) k x (omega (arith, less, within)));
    after = λ k from last. omega (arith, ltb-false _ number (point.1 k x from last), key_read (x ∷ es) k x last);
  }

  pub below_all : (number : ℕ) (e : ℕ × X) (es : List (ℕ × X)) → IsSorted es → 0 < length es → e ≡ get_or es (length es - 1) e → e.0 < number → IsBelow number (length es) es
  below_all number e es sorted some is less = record {
    within = omega arith;
    before = λ k inside. omega (arith, key_at es (length es - 1) e (omega (arith, some)) is, keys_far es sorted k (length es - 1) (omega (arith, inside)) (omega (arith, some)), less);
    after = λ k from last. absurd (omega (arith, from, last));
  }

  pub first_gone : (es : List (ℕ × X)) → drop 1 es ≡ remove es 0
  first_gone [] = refl
  first_gone (x ∷ es) = refl

  pub stands : (number i : ℕ) (e : ℕ × X) (es : List (ℕ × X)) → IsSorted es → i < length es → e ≡ get_or es i e → e.0 ≡ number → IsAt number i es
  stands number i e es sorted within is same = record {
    within = within;
    before = λ k less. omega (arith, key_at es i e within is, same, keys_rise es sorted k i less within);
    is = key_at es i e within is ∙ same;
  }

  pub is_last : (number : ℕ) (e : ℕ × X) (es : List (ℕ × X)) → IsSorted es → 0 < length es → e ≡ get_or es (length es - 1) e → e.0 ≡ number → IsAt number (length es - 1) es
  is_last number e es sorted some is same = stands number (length es - 1) e es sorted (omega (arith, some)) is same

  pub below_first : (number : ℕ) (e : ℕ × X) (es : List (ℕ × X)) → IsSorted es → 0 < length es → e ≡ get_or es 0 e → number < e.0 → IsGap number 0 es
  below_first number e es sorted some is less = record {
    within = omega arith;
    before = λ k before. absurd (omega (arith, before));
    after = λ k from last. omega (arith, less, key_at es 0 e some is, keys_far es sorted 0 k (omega arith) last);
  }

  -- ---- where it is looked for
  pub is_there : (number i : ℕ) (e : ℕ × X) (es : List (ℕ × X)) → IsBelow number i es → i < length es → e ≡ get_or es i e → e.0 ≡ number → IsAt number i es
  is_there number i e es below within is same = record { within = within; before = below.before; is = key_at es i e within is ∙ same }

  pub is_gap : (number i : ℕ) (e : ℕ × X) (es : List (ℕ × X)) → IsBelow number i es → IsSorted es → i < length es → e ≡ get_or es i e → (e.0 ≡ number → ⊥) → IsGap number i es
  is_gap number i e es below sorted within is apart = record {
    within = below.within;
    before = below.before;
    after = λ k from last. omega (arith, first, keys_far es sorted i k from last);
  }
    where
      first : number < get_or (keys_of es) i 0
      first = omega (arith, below.after i (omega arith) within, key_at es i e within is, apart)

  pub is_end : (number i : ℕ) (es : List (ℕ × X)) → IsBelow number i es → length es ≤ i → IsGap number i es
  is_end number i es below past = record { within = below.within; before = below.before; after = λ k from last. absurd (omega (arith, past, from, last)) }

  -- ---- what the numbers have from now on
  twice : (t s : Bool) (a b c : Option X) → t ≡ s → cond t a c ≡ cond s a (cond t b c)
  twice true true a b c same = refl
  twice false false a b c same = refl
  twice true false a b c same = absurd (false≢true (sym same))
  twice false true a b c same = absurd (false≢true same)

  turned : (t s : Bool) (a b c : Option X) → (t ≡ true → s ≡ false) → cond t a (cond s b c) ≡ cond s b (cond t a c)
  turned true true a b c apart = absurd (false≢true (sym (apart refl)))
  turned true false a b c apart = refl
  turned false true a b c apart = refl
  turned false false a b c apart = refl

  value_inserted : (n : ℕ) (v : X) (es : List (ℕ × X)) (q : ℕ) → value_of q (insert_entry nat_cmp es n v) ≡ cond (nat_eq q n) (Some v) (value_of q es)
  value_inserted n v [] q = ap (λ t. cond t (Some v) None) (at_eq q n)
  value_inserted n v (x ∷ es) q = elim (compared n x.0) [
    | inl below ↦ chosen below.order ∙ ap (λ t. cond t (Some v) (value_of q (x ∷ es))) (at_eq q n)
    | inr rest ↦ elim rest [
      | inl equal ↦ chosen equal.order ∙ twice (is_at (nat_cmp q) x.0) (nat_eq q n) (Some v) (Some x.1) (value_of q es) (at_eq q x.0 ∙ ap (nat_eq q) (sym equal.same))
      | inr above ↦ chosen above.order ∙ ap (cond (is_at (nat_cmp q) x.0) (Some x.1)) (value_inserted n v es q)
          ∙ turned (is_at (nat_cmp q) x.0) (nat_eq q n) (Some x.1) (Some v) (value_of q es) (not_both q n x.0 (above_apart n x.0 above.more))
    ]
  ]
    where
      chosen : {o : Ordering} → nat_cmp n x.0 ≡ o → value_of q (insert_entry nat_cmp (x ∷ es) n v) ≡ value_of q (match_ordering o ((n, v) ∷ x ∷ es) ((x.0, v) ∷ es) (x ∷ insert_entry nat_cmp es n v))
      chosen e = ap (λ o. value_of q (match_ordering o ((n, v) ∷ x ∷ es) ((x.0, v) ∷ es) (x ∷ insert_entry nat_cmp es n v))) e

  -- behind the least number there are greater ones alone
  behind : (number : ℕ) (x : ℕ × X) (es : List (ℕ × X)) → IsSorted (x ∷ es) → x.0 ≡ number → IsGap number 0 es
  behind number x es sorted is = record {
    within = omega arith;
    before = λ k less. absurd (omega (arith, less));
    after = λ k from last. omega (arith, is, keys_rise (x ∷ es) sorted 0 (suc k) (omega arith) (omega (arith, last)));
  }

  value_removed : (n i : ℕ) (es : List (ℕ × X)) (q : ℕ) → IsAt n i es → IsSorted es → value_of q (remove es i) ≡ cond (nat_eq q n) None (value_of q es)
  unfolding IsStrictlySortedBy
  value_removed n i [] q at sorted = absurd (omega (arith, at.within))
  value_removed n zero (x ∷ es) q at sorted = elim (same_or_apart q n) [
    | inl same ↦ ap (λ k. value_of k es) same ∙ lookup_gap n 0 es (behind n x es sorted at.is) ∙ sym (ap (λ t. cond t None (value_of q (x ∷ es))) (here q n same))
    | inr apart ↦ sym (ap (λ t. cond t None (value_of q (x ∷ es))) apart ∙ ap (λ t. cond t (Some x.1) (value_of q es)) (at_eq q x.0 ∙ ap (nat_eq q) at.is ∙ apart))
  ]
  value_removed n (suc i) (x ∷ es) q at sorted =
      ap (cond (is_at (nat_cmp q) x.0) (Some x.1)) (value_removed n i es q (at_rest n i x es at) sorted.1)
      ∙ turned (is_at (nat_cmp q) x.0) (nat_eq q n) (Some x.1) None (value_of q es) (not_both q n x.0 (above_apart n x.0 (at.before zero (omega arith))))

  some_at : (number i : ℕ) (es : List (ℕ × X)) → IsAt number i es → is_some (value_of number es) ≡ true
  some_at number i [] at = absurd (omega (arith, at.within))
  some_at number zero (x ∷ es) at = ap (λ t. is_some (cond t (Some x.1) (value_of number es))) (at_here number x.0 (sym at.is))
  some_at number (suc i) (x ∷ es) at =
      ap (λ t. is_some (cond t (Some x.1) (value_of number es))) (at_apart number x.0 (above_apart number x.0 (at.before zero (omega arith)))) ∙ some_at number i es (at_rest number i x es at)

  length_removed : (number i : ℕ) (es : List (ℕ × X)) → IsAt number i es → length (remove es i) + 1 ≡ length es
  length_removed number i [] at = absurd (omega (arith, at.within))
  length_removed number zero (x ∷ es) at = omega arith
  length_removed number (suc i) (x ∷ es) at = omega (arith, length_removed number i es (at_rest number i x es at))

  pub puts_at : (number i : ℕ) (v : X) (es new : List (ℕ × X)) → IsAt number i es → new ≡ set es i (number, v) → Puts number (Some v) es new
  puts_at number i v es new at is = record {
    at = λ q. ap (value_of q) (is ∙ insert_at number i v es at) ∙ value_inserted number v es q;
    len = omega (arith, ap length is, length-set es i (number, v), ap one_if (some_at number i es at));
  }

  pub puts_gap : (number i : ℕ) (v : X) (es new : List (ℕ × X)) → IsGap number i es → new ≡ insert es i (number, v) → Puts number (Some v) es new
  puts_gap number i v es new gap is = record {
    at = λ q. ap (value_of q) (is ∙ insert_gap number i v es gap) ∙ value_inserted number v es q;
    len = omega (arith, ap length is, length-insert es i (number, v) gap.within, ap (λ o. one_if (is_some o)) (lookup_gap number i es gap));
  }

  pub puts_removed : (number i : ℕ) (es new : List (ℕ × X)) → IsAt number i es → IsSorted es → new ≡ remove es i → Puts number None es new
  puts_removed number i es new at sorted is = record {
    at = λ q. ap (value_of q) is ∙ value_removed number i es q at sorted;
    len = omega (arith, ap length is, length_removed number i es at, ap one_if (some_at number i es at));
  }

  pub puts_none : (number i : ℕ) (es : List (ℕ × X)) → IsGap number i es → Puts number None es es
  puts_none number i es gap = record {
    at = λ q. elim (same_or_apart q number) [
      | inl same ↦ ap (λ k. value_of k es) same ∙ lookup_gap number i es gap ∙ sym (ap (λ t. cond t None (value_of q es)) (here q number same))
      | inr apart ↦ sym (ap (λ t. cond t None (value_of q es)) apart)
    ];
    len = omega (arith, ap (λ o. one_if (is_some o)) (lookup_gap number i es gap));
  }

  -- it has one or none
  pub not_none : (number i : ℕ) (es : List (ℕ × X)) → IsAt number i es → IsNone (value_of number es) → ⊥
  not_none number i es at none = false≢true (sym none ∙ some_at number i es at)

  pub not_some : (number i : ℕ) (es : List (ℕ × X)) → IsGap number i es → IsSome (value_of number es) → ⊥
  not_some number i es gap some = false≢true (sym (ap is_some (lookup_gap number i es gap)) ∙ some)
