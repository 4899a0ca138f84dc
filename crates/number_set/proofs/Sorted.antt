-- NumberSet in order: their order and which they are make a list, and what a number does that comes or goes.
use Rattle.std.proofs.Common.{ap, arith, inl, inr, refl, subst, sym, ◌∙◌}
use Rattle.std.proofs.lemmas.Bool.{cases_Bool, false≢true}
use Rattle.std.specs.BTreeMap.{is_at}
use Rattle.std.specs.BTreeSet.{insert_key}
use Rattle.std.specs.List.{AllByRecursion}
use Rattle.std.specs.List.Sorted.{IsStrictlySortedBy}
use Rattle.std.specs.Ordering.{match_ordering, nat_cmp}
use Rattle.std.specs.Prelude.{Bool, List, [], false, if◌then◌else◌, nat_eq, suc, take, true, zero, ℕ, ◌<◌, ◌||◌, ◌∷◌, ◌≡◌, ◌≤◌}
use Rattle.std.specs.Set.{remove_key}
use Rattle.std.specs.declared.cmp.Ordering.TheVariants.{Less}
use Rattle.number_set.proofs.Tests.{at_apart, at_here, below_apart, compared, here, is_less, less_is, same_is, same_or_apart, turned}
use Rattle.number_set.specs.NumberSet.{Rises, has, marked}

-- each is above x
abbrev pub Above : ℕ → List ℕ → Type 0
Above x = AllByRecursion (λ y. nat_cmp x y ≡ Less)

above_less : (x y : ℕ) (xs : List ℕ) → x < y → Above y xs → Above x xs
above_less x y [] less above = tt
above_less x y (z ∷ xs) less above = (is_less x z (omega (arith, less, less_is y z above.0)), above_less x y xs less above.1)

pub rises_none : Rises []
unfolding IsStrictlySortedBy
rises_none = tt

-- what is at most x isn't among those above it
pub none_upto : (n x : ℕ) (xs : List ℕ) → n ≤ x → Above x xs → has xs n ≡ false
none_upto n x [] le above = refl
none_upto n x (y ∷ xs) le above =
    ap (λ b. b || has xs n) (below_apart n y (omega (arith, le, less_is x y above.0))) ∙ none_upto n x xs le above.1

pub has_first : (x : ℕ) (xs : List ℕ) → has (x ∷ xs) x ≡ true
has_first x xs = ap (λ b. b || has xs x) (here x x refl)

pub has_other : (n x : ℕ) (xs : List ℕ) → nat_eq n x ≡ false → has (x ∷ xs) n ≡ has xs n
has_other n x xs apart = ap (λ b. b || has xs n) apart

-- ---- order and members make a list
no_first : (x y : ℕ) (xs ys : List ℕ) → Above y ys → ((n : ℕ) → has (x ∷ xs) n ≡ has (y ∷ ys) n) → x < y → ⊥
no_first x y xs ys above same less = false≢true
    (sym (has_other x y ys (below_apart x y less) ∙ none_upto x y ys (omega (arith, less)) above) ∙ sym (same x) ∙ has_first x xs)

one_first : (x y : ℕ) (xs ys : List ℕ) → Above x xs → Above y ys → ((n : ℕ) → has (x ∷ xs) n ≡ has (y ∷ ys) n) → x ≡ y
one_first x y xs ys low high same = elim (compared x y) [
  | inl below ↦ absurd (no_first x y xs ys high same below.less)
  | inr rest ↦ elim rest [
    | inl equal ↦ equal.same
    | inr above ↦ absurd (no_first y x ys xs low (λ n. sym (same n)) above.more)
  ]
]

same_rest : (x : ℕ) (xs ys : List ℕ) → Above x xs → Above x ys → ((n : ℕ) → has (x ∷ xs) n ≡ has (x ∷ ys) n) → (n : ℕ) → has xs n ≡ has ys n
same_rest x xs ys low high same n = elim (same_or_apart n x) [
  | inl is ↦ none_upto n x xs (omega (arith, is)) low ∙ sym (none_upto n x ys (omega (arith, is)) high)
  | inr apart ↦ sym (has_other n x xs apart) ∙ same n ∙ has_other n x ys apart
]

pub same_list : (xs ys : List ℕ) → Rises xs → Rises ys → ((n : ℕ) → has xs n ≡ has ys n) → xs ≡ ys
unfolding IsStrictlySortedBy
same_list [] [] rx ry same = refl
same_list [] (y ∷ ys) rx ry same = absurd (false≢true (same y ∙ has_first y ys))
same_list (x ∷ xs) [] rx ry same = absurd (false≢true (sym (same x) ∙ has_first x xs))
same_list (x ∷ xs) (y ∷ ys) rx ry same =
    let is : x ≡ y = one_first x y xs ys rx.0 ry.0 same in
    let rest : (n : ℕ) → has xs n ≡ has ys n = same_rest x xs ys rx.0 (subst (λ z. Above z ys) (sym is) ry.0) (λ n. same n ∙ ap (λ z. has (z ∷ ys) n) (sym is)) in
    ap (λ z. z ∷ xs) is ∙ ap (λ zs. y ∷ zs) (same_list xs ys rx.1 ry.1 rest)

-- ---- a number comes
told_first : (n m : ℕ) (b : Bool) → (nat_eq m n || b) ≡ (if nat_eq n m then true else b)
told_first n m b = elim (cases_Bool (nat_eq n m)) [
  | inl so ↦ ap (λ t. t || b) (turned m n ∙ so) ∙ sym (ap (λ t. if t then true else b) so)
  | inr not_so ↦ ap (λ t. t || b) (turned m n ∙ not_so) ∙ sym (ap (λ t. if t then true else b) not_so)
]

told_there : (n m : ℕ) (a : Bool) → (nat_eq m n ≡ true → a ≡ true) → a ≡ (if nat_eq n m then true else a)
told_there n m a there = elim (cases_Bool (nat_eq n m)) [
  | inl so ↦ there (turned m n ∙ so) ∙ sym (ap (λ t. if t then true else a) so)
  | inr not_so ↦ sym (ap (λ t. if t then true else a) not_so)
]

told_later : (a t b : Bool) → (a || (if t then true else b)) ≡ (if t then true else (a || b))
told_later true true b = refl
told_later true false b = refl
told_later false t b = refl

has_insert : (xs : List ℕ) (n m : ℕ) → has (insert_key nat_cmp xs n) m ≡ (if nat_eq n m then true else has xs m)
has_insert [] n m = told_first n m false
has_insert (x ∷ xs) n m =
    elim (compared n x) [
      | inl below ↦ ap (λ o. has (match_ordering o (n ∷ x ∷ xs) (x ∷ xs) (x ∷ insert_key nat_cmp xs n)) m) below.order ∙ told_first n m (has (x ∷ xs) m)
      | inr rest ↦ elim rest [
        | inl equal ↦ ap (λ o. has (match_ordering o (n ∷ x ∷ xs) (x ∷ xs) (x ∷ insert_key nat_cmp xs n)) m) equal.order
            ∙ told_there n m (has (x ∷ xs) m) (λ is. ap (λ b. b || has xs m) (here m x (same_is m n is ∙ equal.same)))
        | inr above ↦ ap (λ o. has (match_ordering o (n ∷ x ∷ xs) (x ∷ xs) (x ∷ insert_key nat_cmp xs n)) m) above.order
            ∙ ap (λ b. nat_eq m x || b) (has_insert xs n m) ∙ told_later (nat_eq m x) (nat_eq n m) (has xs m)
      ]
    ]

all_insert : (x n : ℕ) (xs : List ℕ) → x < n → Above x xs → Above x (insert_key nat_cmp xs n)
all_insert x n [] less above = (is_less x n less, tt)
all_insert x n (y ∷ xs) less above = elim (compared n y) [
  | inl below ↦ subst (λ o. Above x (match_ordering o (n ∷ y ∷ xs) (y ∷ xs) (y ∷ insert_key nat_cmp xs n))) (sym below.order) (is_less x n less, above)
  | inr rest ↦ elim rest [
    | inl equal ↦ subst (λ o. Above x (match_ordering o (n ∷ y ∷ xs) (y ∷ xs) (y ∷ insert_key nat_cmp xs n))) (sym equal.order) above
    | inr more ↦ subst (λ o. Above x (match_ordering o (n ∷ y ∷ xs) (y ∷ xs) (y ∷ insert_key nat_cmp xs n))) (sym more.order) (above.0, all_insert x n xs less above.1)
  ]
]

pub rises_insert : (xs : List ℕ) (n : ℕ) → Rises xs → Rises (insert_key nat_cmp xs n)
unfolding IsStrictlySortedBy
rises_insert [] n r = (tt, tt)
rises_insert (x ∷ xs) n r = elim (compared n x) [
  | inl below ↦ subst (λ o. Rises (match_ordering o (n ∷ x ∷ xs) (x ∷ xs) (x ∷ insert_key nat_cmp xs n))) (sym below.order) ((below.order, above_less n x xs below.less r.0), r)
  | inr rest ↦ elim rest [
    | inl equal ↦ subst (λ o. Rises (match_ordering o (n ∷ x ∷ xs) (x ∷ xs) (x ∷ insert_key nat_cmp xs n))) (sym equal.order) r
    | inr above ↦ subst (λ o. Rises (match_ordering o (n ∷ x ∷ xs) (x ∷ xs) (x ∷ insert_key nat_cmp xs n))) (sym above.order) (all_insert x n xs above.more r.0, rises_insert xs n r.1)
  ]
]

-- ---- a number goes
gone_here : (n m x : ℕ) (xs : List ℕ) → n ≡ x → Above x xs → has xs m ≡ (if nat_eq n m then false else has (x ∷ xs) m)
gone_here n m x xs is above = elim (same_or_apart n m) [
  | inl same ↦ none_upto m x xs (omega (arith, is, same)) above ∙ sym (ap (λ t. if t then false else has (x ∷ xs) m) (here n m same))
  | inr apart ↦ sym (has_other m x xs (ap (nat_eq m) (sym is) ∙ turned m n ∙ apart)) ∙ sym (ap (λ t. if t then false else has (x ∷ xs) m) apart)
]

gone_later : (n m x : ℕ) (b : Bool) → nat_eq n x ≡ false → (nat_eq m x || (if nat_eq n m then false else b)) ≡ (if nat_eq n m then false else (nat_eq m x || b))
gone_later n m x b apart = elim (same_or_apart n m) [
  | inl same ↦
      let other : nat_eq m x ≡ false = ap (λ k. nat_eq k x) (sym same) ∙ apart in
      ap (λ t. nat_eq m x || (if t then false else b)) (here n m same) ∙ ap (λ t. t || false) other ∙ sym (ap (λ t. if t then false else (nat_eq m x || b)) (here n m same))
  | inr not_so ↦ ap (λ t. nat_eq m x || (if t then false else b)) not_so ∙ sym (ap (λ t. if t then false else (nat_eq m x || b)) not_so)
]

gone_none : (n m : ℕ) → false ≡ (if nat_eq n m then false else false)
gone_none n m = elim (cases_Bool (nat_eq n m)) [
  | inl so ↦ sym (ap (λ t. if t then false else false) so)
  | inr not_so ↦ sym (ap (λ t. if t then false else false) not_so)
]

has_remove : (xs : List ℕ) (n m : ℕ) → Rises xs → has (remove_key (is_at (nat_cmp n)) xs) m ≡ (if nat_eq n m then false else has xs m)
unfolding IsStrictlySortedBy
has_remove [] n m r = gone_none n m
has_remove (x ∷ xs) n m r = elim (same_or_apart n x) [
  | inl same ↦ ap (λ t. has (if t then xs else x ∷ remove_key (is_at (nat_cmp n)) xs) m) (at_here n x same) ∙ gone_here n m x xs same r.0
  | inr apart ↦ ap (λ t. has (if t then xs else x ∷ remove_key (is_at (nat_cmp n)) xs) m) (at_apart n x apart)
      ∙ ap (λ b. nat_eq m x || b) (has_remove xs n m r.1) ∙ gone_later n m x (has xs m) apart
]

all_remove : (x n : ℕ) (xs : List ℕ) → Above x xs → Above x (remove_key (is_at (nat_cmp n)) xs)
all_remove x n [] above = tt
all_remove x n (y ∷ xs) above = elim (cases_Bool (is_at (nat_cmp n) y)) [
  | inl so ↦ subst (λ t. Above x (if t then xs else y ∷ remove_key (is_at (nat_cmp n)) xs)) (sym so) above.1
  | inr not_so ↦ subst (λ t. Above x (if t then xs else y ∷ remove_key (is_at (nat_cmp n)) xs)) (sym not_so) (above.0, all_remove x n xs above.1)
]

pub rises_remove : (xs : List ℕ) (n : ℕ) → Rises xs → Rises (remove_key (is_at (nat_cmp n)) xs)
unfolding IsStrictlySortedBy
rises_remove [] n r = tt
rises_remove (x ∷ xs) n r = elim (cases_Bool (is_at (nat_cmp n) x)) [
  | inl so ↦ subst (λ t. Rises (if t then xs else x ∷ remove_key (is_at (nat_cmp n)) xs)) (sym so) r.1
  | inr not_so ↦ subst (λ t. Rises (if t then xs else x ∷ remove_key (is_at (nat_cmp n)) xs)) (sym not_so) (all_remove x n xs r.0, rises_remove xs n r.1)
]

-- ---- the last go
all_front : (x n : ℕ) (xs : List ℕ) → Above x xs → Above x (take n xs)
all_front x zero [] above = tt
all_front x zero (y ∷ ys) above = tt
all_front x (suc n) [] above = tt
all_front x (suc n) (y ∷ ys) above = (above.0, all_front x n ys above.1)

pub rises_front : (n : ℕ) (xs : List ℕ) → Rises xs → Rises (take n xs)
unfolding IsStrictlySortedBy
rises_front zero [] r = tt
rises_front zero (y ∷ ys) r = tt
rises_front (suc n) [] r = tt
rises_front (suc n) (y ∷ ys) r = (all_front y n ys r.0, rises_front n ys r.1)

-- ---- it comes or goes
pub has_marked : (xs : List ℕ) (n m : ℕ) (b : Bool) → Rises xs → has (marked n b xs) m ≡ (if nat_eq n m then b else has xs m)
has_marked xs n m true r = has_insert xs n m
has_marked xs n m false r = has_remove xs n m r

pub rises_marked : (xs : List ℕ) (n : ℕ) (b : Bool) → Rises xs → Rises (marked n b xs)
rises_marked xs n true r = rises_insert xs n r
rises_marked xs n false r = rises_remove xs n r

still : (n m : ℕ) (xs : List ℕ) (b : Bool) → has xs n ≡ b → (if nat_eq n m then b else has xs m) ≡ has xs m
still n m xs b is = elim (same_or_apart n m) [
  | inl same ↦ ap (λ t. if t then b else has xs m) (here n m same) ∙ sym is ∙ ap (has xs) same
  | inr apart ↦ ap (λ t. if t then b else has xs m) apart
]

pub marked_same : (xs : List ℕ) (n : ℕ) (b : Bool) → Rises xs → has xs n ≡ b → marked n b xs ≡ xs
marked_same xs n b r is = same_list (marked n b xs) xs (rises_marked xs n b r) r (λ m. has_marked xs n m b r ∙ still n m xs b is)

pub unmarked : (xs : List ℕ) (n : ℕ) → Rises xs → has xs n ≡ false → marked n false (marked n true xs) ≡ xs
unmarked xs n r is = same_list (marked n false (marked n true xs)) xs (rises_marked (marked n true xs) n false (rises_marked xs n true r)) r
    (λ m. has_marked (marked n true xs) n m false (rises_marked xs n true r) ∙ ap (λ b. if nat_eq n m then false else b) (has_marked xs n m true r) ∙ twice m)
  where
    twice : (m : ℕ) → (if nat_eq n m then false else (if nat_eq n m then true else has xs m)) ≡ has xs m
    twice m = elim (same_or_apart n m) [
      | inl same ↦ ap (λ t. if t then false else (if t then true else has xs m)) (here n m same) ∙ sym is ∙ ap (has xs) same
      | inr apart ↦ ap (λ t. if t then false else (if t then true else has xs m)) apart
    ]
