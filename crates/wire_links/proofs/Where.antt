-- The numbers of those for which something holds.
use Rattle.std.proofs.Common.{ap, arith, inl, inr, refl, subst, sym, ◌∙◌}
use Rattle.std.proofs.lemmas.Bool.{cases_Bool, false≢true}
use Rattle.std.proofs.lemmas.Option.{none-some}
use Rattle.std.specs.BTreeMap.{insert_entry, is_at}
use Rattle.std.specs.List.{AllByRecursion, filter}
use Rattle.std.specs.List.Sorted.{IsStrictlySortedBy}
use Rattle.std.specs.Map.{keys_of, remove_entry}
use Rattle.std.specs.Option.{option_map_or}
use Rattle.std.specs.Ordering.{nat_cmp}
use Rattle.std.specs.declared.cmp.Ordering.TheVariants.{Less}
use Rattle.std.specs.Prelude.{Bool, IfSome, List, None, Option, Some, [], false, if◌then◌else◌, length, nat_eq, true, ℕ, ◌<◌, ◌||◌, ◌∷◌, ◌≡◌, ◌≤◌}
use Rattle.number_set.proofs.Sorted.{has_first, has_marked, has_other, none_upto, rises_marked, same_list}
use Rattle.number_set.proofs.Tests.{here, same_or_apart}
use Rattle.wire_links.proofs.Under.{choice, entries_insert, entries_remove, keys_changed, other, some_is, under_first, under_insert, under_it, under_later, under_others, under_remove}
use Rattle.number_set.specs.NumberSet.{Rises, first, has, marked}
use Rattle.wire_links.specs.Numbers.{changed, numbers_where, under}

module _ {X : Type 0} where
  where_in : (p : ℕ → X → Bool) (e : ℕ × X) (es : List (ℕ × X)) → p e.0 e.1 ≡ true → numbers_where p (e ∷ es) ≡ e.0 ∷ numbers_where p es
  where_in p e es so = ap (λ t. keys_of (if t then e ∷ filter (λ d. p d.0 d.1) es else filter (λ d. p d.0 d.1) es)) so

  where_out : (p : ℕ → X → Bool) (e : ℕ × X) (es : List (ℕ × X)) → p e.0 e.1 ≡ false → numbers_where p (e ∷ es) ≡ numbers_where p es
  where_out p e es not_so = ap (λ t. keys_of (if t then e ∷ filter (λ d. p d.0 d.1) es else filter (λ d. p d.0 d.1) es)) not_so

  pub all_where : (P : ℕ → Type 0) (p : ℕ → X → Bool) (es : List (ℕ × X)) → AllByRecursion P (keys_of es) → AllByRecursion P (numbers_where p es)
  all_where P p [] all = tt
  all_where P p (e ∷ es) all = elim (cases_Bool (p e.0 e.1)) [
    | inl so ↦ subst (AllByRecursion P) (sym (where_in p e es so)) (all.0, all_where P p es all.1)
    | inr not_so ↦ subst (AllByRecursion P) (sym (where_out p e es not_so)) (all_where P p es all.1)
  ]

  pub rises_where : (p : ℕ → X → Bool) (es : List (ℕ × X)) → Rises (keys_of es) → Rises (numbers_where p es)
  unfolding IsStrictlySortedBy
  rises_where p [] r = tt
  rises_where p (e ∷ es) r = elim (cases_Bool (p e.0 e.1)) [
    | inl so ↦ subst Rises (sym (where_in p e es so)) (all_where (λ y. nat_cmp e.0 y ≡ Less) p es r.0, rises_where p es r.1)
    | inr not_so ↦ subst Rises (sym (where_out p e es not_so)) (rises_where p es r.1)
  ]

  -- whether it holds of what stands under the number
  abbrev pub holds : (ℕ → X → Bool) → ℕ → Option X → Bool
  holds p n o = option_map_or (p n) o false

  pub has_where : (p : ℕ → X → Bool) (es : List (ℕ × X)) (n : ℕ) → Rises (keys_of es) → has (numbers_where p es) n ≡ holds p n (under n es)
  unfolding IsStrictlySortedBy
  has_where p [] n r = refl
  has_where p (e ∷ es) n r = elim (same_or_apart n e.0) [
    | inl same ↦
        let found : holds p n (under n (e ∷ es)) ≡ p e.0 e.1 = ap (holds p n) (under_first e es n same) ∙ ap (λ k. p k e.1) same in
        elim (cases_Bool (p e.0 e.1)) [
          | inl so ↦ ap (λ xs. has xs n) (where_in p e es so) ∙ ap (λ b. b || has (numbers_where p es) n) (here n e.0 same) ∙ sym so ∙ sym found
          | inr not_so ↦ ap (λ xs. has xs n) (where_out p e es not_so) ∙ none_upto n e.0 (numbers_where p es) (omega (arith, same)) (all_where (λ y. nat_cmp e.0 y ≡ Less) p es r.0) ∙ sym not_so ∙ sym found
        ]
    | inr apart ↦
        let found : holds p n (under n (e ∷ es)) ≡ holds p n (under n es) = ap (holds p n) (under_later e es n apart) in
        elim (cases_Bool (p e.0 e.1)) [
          | inl so ↦ ap (λ xs. has xs n) (where_in p e es so) ∙ has_other n e.0 (numbers_where p es) apart ∙ has_where p es n r.1 ∙ sym found
          | inr not_so ↦ ap (λ xs. has xs n) (where_out p e es not_so) ∙ has_where p es n r.1 ∙ sym found
        ]
  ]

  -- two lists of which the same holds under each number
  pub where_alike : (p q : ℕ → X → Bool) (es fs : List (ℕ × X)) → Rises (keys_of es) → Rises (keys_of fs) → ((n : ℕ) → holds p n (under n es) ≡ holds q n (under n fs)) →
      numbers_where p es ≡ numbers_where q fs
  where_alike p q es fs re rf alike = same_list (numbers_where p es) (numbers_where q fs) (rises_where p es re) (rises_where q fs rf)
      (λ n. has_where p es n re ∙ alike n ∙ sym (has_where q fs n rf))

  -- a list of which the same holds under each number but one
  pub where_but : (p q : ℕ → X → Bool) (es fs : List (ℕ × X)) (n : ℕ) (b : Bool) → Rises (keys_of es) → Rises (keys_of fs) →
      holds q n (under n fs) ≡ b → ((m : ℕ) → nat_eq n m ≡ false → holds q m (under m fs) ≡ holds p m (under m es)) →
      numbers_where q fs ≡ marked n b (numbers_where p es)
  where_but p q es fs n b re rf it others = same_list (numbers_where q fs) (marked n b (numbers_where p es)) (rises_where q fs rf) (rises_marked (numbers_where p es) n b (rises_where p es re))
      (λ m. has_where q fs m rf ∙ each m ∙ sym (has_marked (numbers_where p es) n m b (rises_where p es re)))
    where
      each : (m : ℕ) → holds q m (under m fs) ≡ (if nat_eq n m then b else has (numbers_where p es) m)
      each m = elim (same_or_apart n m) [
        | inl same ↦ ap (λ k. holds q k (under k fs)) (sym same) ∙ it ∙ sym (choice n m b (has (numbers_where p es) m) same)
        | inr apart ↦ others m apart ∙ sym (has_where p es m re) ∙ sym (other n m b (has (numbers_where p es) m) apart)
      ]

  pub where_insert : (p : ℕ → X → Bool) (es : List (ℕ × X)) (n : ℕ) (v : X) → Rises (keys_of es) → numbers_where p (insert_entry nat_cmp es n v) ≡ marked n (p n v) (numbers_where p es)
  where_insert p es n v r = where_but p p es (insert_entry nat_cmp es n v) n (p n v) r (entries_insert es n v r)
      (ap (holds p n) (under_insert es n n v ∙ choice n n (Some v) (under n es) refl))
      (λ m apart. ap (holds p m) (under_insert es n m v ∙ other n m (Some v) (under m es) apart))

  pub where_remove : (p : ℕ → X → Bool) (es : List (ℕ × X)) (n : ℕ) → Rises (keys_of es) → numbers_where p (remove_entry (is_at (nat_cmp n)) es) ≡ marked n false (numbers_where p es)
  where_remove p es n r = where_but p p es (remove_entry (is_at (nat_cmp n)) es) n false r (entries_remove es n r)
      (ap (holds p n) (under_remove es n n r ∙ choice n n None (under n es) refl))
      (λ m apart. ap (holds p m) (under_remove es n m r ∙ other n m None (under m es) apart))

  pub rises_changed : (es : List (ℕ × X)) (n : ℕ) (f : X → X) → Rises (keys_of es) → Rises (keys_of (changed n f es))
  rises_changed es n f r = subst Rises (sym (keys_changed es n f)) r

  pub where_changed : (p : ℕ → X → Bool) (es : List (ℕ × X)) (n : ℕ) (f : X → X) (v : X) → Rises (keys_of es) → under n es ≡ Some v →
      numbers_where p (changed n f es) ≡ marked n (p n (f v)) (numbers_where p es)
  where_changed p es n f v r is = where_but p p es (changed n f es) n (p n (f v)) r (rises_changed es n f r)
      (ap (holds p n) (under_it es n f v is))
      (λ m apart. ap (holds p m) (under_others es n m f apart))

  -- ---- how many they are
  pub fewer_equal : (p q : ℕ → X → Bool) (es : List (ℕ × X)) → ((n : ℕ) (v : X) → p n v ≡ true → q n v ≡ true) → length (numbers_where p es) ≤ length (numbers_where q es)
  fewer_equal p q [] within = omega arith
  fewer_equal p q (e ∷ es) within = elim (cases_Bool (q e.0 e.1)) [
    | inl so ↦ elim (cases_Bool (p e.0 e.1)) [
      | inl both ↦ omega (arith, ap length (where_in p e es both), ap length (where_in q e es so), fewer_equal p q es within)
      | inr not_so ↦ omega (arith, ap length (where_out p e es not_so), ap length (where_in q e es so), fewer_equal p q es within)
    ]
    | inr out ↦ omega (arith, ap length (where_out p e es (also_out (p e.0 e.1) refl out)), ap length (where_out q e es out), fewer_equal p q es within)
  ]
    where
      also_out : (b : Bool) → p e.0 e.1 ≡ b → q e.0 e.1 ≡ false → p e.0 e.1 ≡ false
      also_out true is out = absurd (false≢true (sym out ∙ within e.0 e.1 is))
      also_out false is out = is

  pub fewer : (p q : ℕ → X → Bool) (es : List (ℕ × X)) (n : ℕ) (v : X) → ((m : ℕ) (w : X) → p m w ≡ true → q m w ≡ true) → under n es ≡ Some v → q n v ≡ true → p n v ≡ false →
      length (numbers_where p es) < length (numbers_where q es)
  fewer p q [] n v within is so not_so = absurd (none-some v is)
  fewer p q (e ∷ es) n v within is so not_so = elim (same_or_apart n e.0) [
    | inl same ↦
        let value : e.1 ≡ v = some_is e.1 v (sym (under_first e es n same) ∙ is) in
        let out : p e.0 e.1 ≡ false = ap (λ k. p k e.1) (sym same) ∙ ap (p n) value ∙ not_so in
        let into : q e.0 e.1 ≡ true = ap (λ k. q k e.1) (sym same) ∙ ap (q n) value ∙ so in
        omega (arith, ap length (where_out p e es out), ap length (where_in q e es into), fewer_equal p q es within)
    | inr apart ↦
        let rest : length (numbers_where p es) < length (numbers_where q es) = fewer p q es n v within (sym (under_later e es n apart) ∙ is) so not_so in
        elim (cases_Bool (p e.0 e.1)) [
          | inl both ↦ omega (arith, ap length (where_in p e es both), ap length (where_in q e es (within e.0 e.1 both)), rest)
          | inr left ↦ elim (cases_Bool (q e.0 e.1)) [
            | inl more ↦ omega (arith, ap length (where_out p e es left), ap length (where_in q e es more), rest)
            | inr none ↦ omega (arith, ap length (where_out p e es left), ap length (where_out q e es none), rest)
          ]
        ]
  ]

-- no more are there than all
pub where_within : {X : Type 0} (p : ℕ → X → Bool) (es : List (ℕ × X)) → length (numbers_where p es) ≤ length es
where_within p [] = omega arith
where_within {X} p (e ∷ es) = by_test (p e.0 e.1) (where_within p es)
  where
    by_test : (b : Bool) → length (numbers_where p es) ≤ length es → length (keys_of (if b then e ∷ filter (λ d. p d.0 d.1) es else filter (λ d. p d.0 d.1) es)) ≤ length (e ∷ es)
    by_test true le = omega (arith, le)
    by_test false le = omega (arith, le)

-- the first of a list is in it
pub first_in : (xs : List ℕ) → IfSome (first xs) (λ n. has xs n ≡ true)
first_in [] = tt
first_in (x ∷ xs) = has_first x xs
