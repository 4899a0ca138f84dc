-- How many numbers there are once one has come or gone.
use Rattle.number_set.proofs.Sorted.{has_marked, has_other, none_upto}
use Rattle.number_set.proofs.Tests.{above_apart, at_apart, at_here, below_apart, compared, here, same_or_apart}
use Rattle.number_set.specs.NumberSet.{Rises, has, marked}
use Rattle.std.proofs.Common.{ap, arith, inl, inr, refl, ◌∙◌}
use Rattle.std.specs.BTreeMap.{is_at}
use Rattle.std.specs.BTreeSet.{insert_key}
use Rattle.std.specs.List.Sorted.{IsStrictlySortedBy}
use Rattle.std.specs.Ordering.{match_ordering, nat_cmp}
use Rattle.std.specs.Prelude.{Bool, List, [], false, if◌then◌else◌, length, nat_eq, suc, true, ℕ, ◌+◌, ◌||◌, ◌∷◌, ◌≡◌}
use Rattle.std.specs.Set.{remove_key}

-- what a number counts for
abbrev one : Bool → ℕ
one b = if b then 1 else 0

insert_counts : (xs : List ℕ) (n : ℕ) → Rises xs → length (insert_key nat_cmp xs n) + one (has xs n) ≡ length xs + 1
unfolding IsStrictlySortedBy
insert_counts [] n r = refl
insert_counts (x ∷ xs) n r = elim (compared n x) [
  | inl below ↦
      let size : length (insert_key nat_cmp (x ∷ xs) n) ≡ suc (suc (length xs)) = ap (λ o. length (match_ordering o (n ∷ x ∷ xs) (x ∷ xs) (x ∷ insert_key nat_cmp xs n))) below.order in
      let none : one (has (x ∷ xs) n) ≡ 0 = ap one (has_other n x xs (below_apart n x below.less) ∙ none_upto n x xs (omega (arith, below.less)) r.0) in
      omega (arith, size, none)
  | inr rest ↦ elim rest [
    | inl equal ↦
        let size : length (insert_key nat_cmp (x ∷ xs) n) ≡ suc (length xs) = ap (λ o. length (match_ordering o (n ∷ x ∷ xs) (x ∷ xs) (x ∷ insert_key nat_cmp xs n))) equal.order in
        let there : one (has (x ∷ xs) n) ≡ 1 = ap (λ b. one (b || has xs n)) (here n x equal.same) in
        omega (arith, size, there)
    | inr above ↦
        let size : length (insert_key nat_cmp (x ∷ xs) n) ≡ suc (length (insert_key nat_cmp xs n)) = ap (λ o. length (match_ordering o (n ∷ x ∷ xs) (x ∷ xs) (x ∷ insert_key nat_cmp xs n))) above.order in
        let same : one (has (x ∷ xs) n) ≡ one (has xs n) = ap one (has_other n x xs (above_apart n x above.more)) in
        omega (arith, size, same, insert_counts xs n r.1)
  ]
]

remove_counts : (xs : List ℕ) (n : ℕ) → length (remove_key (is_at (nat_cmp n)) xs) + one (has xs n) ≡ length xs
remove_counts [] n = refl
remove_counts (x ∷ xs) n = elim (same_or_apart n x) [
  | inl same ↦
      let size : length (remove_key (is_at (nat_cmp n)) (x ∷ xs)) ≡ length xs = ap (λ t. length (if t then xs else x ∷ remove_key (is_at (nat_cmp n)) xs)) (at_here n x same) in
      let there : one (has (x ∷ xs) n) ≡ 1 = ap (λ b. one (b || has xs n)) (here n x same) in
      omega (arith, size, there)
  | inr apart ↦
      let size : length (remove_key (is_at (nat_cmp n)) (x ∷ xs)) ≡ suc (length (remove_key (is_at (nat_cmp n)) xs)) = ap (λ t. length (if t then xs else x ∷ remove_key (is_at (nat_cmp n)) xs)) (at_apart n x apart) in
      let same : one (has (x ∷ xs) n) ≡ one (has xs n) = ap one (has_other n x xs apart) in
      omega (arith, size, same, remove_counts xs n)
]

pub marked_counts : (xs : List ℕ) (n : ℕ) (b : Bool) → Rises xs → length (marked n b xs) + (if has xs n then 1 else 0) ≡ length xs + (if b then 1 else 0)
marked_counts xs n true r = insert_counts xs n r
marked_counts xs n false r = omega (arith, remove_counts xs n)

-- ---- of a set that is marked
module _ (xs ys : List ℕ) (n : ℕ) (b : Bool) (rises : Rises xs) (is : ys ≡ marked n b xs) where
  pub members_of : (y : ℕ) → has ys y ≡ (if nat_eq n y then b else has xs y)
  members_of y = ap (λ zs. has zs y) is ∙ has_marked xs n y b rises

  pub count_of : length ys + (if has xs n then 1 else 0) ≡ length xs + (if b then 1 else 0)
  count_of = ap (λ zs. length zs + (if has xs n then 1 else 0)) is ∙ marked_counts xs n b rises
