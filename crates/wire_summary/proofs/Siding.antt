-- Levels of places in a list, as they rise and fall.
use Rattle.std.proofs.Common.{ap, arith, refl, subst, sym, ◌∙◌}
use Rattle.std.proofs.lemmas.Bool.Decides.{nat_tests}
use Rattle.std.specs.Prelude.{Bool, List, None, Option, Some, [], false, length, map, min, slice_get, slice_set, suc, true, zero, ℕ, ◌+◌, ◌-◌, ◌<◌, ◌==◌, ◌∷◌, ◌≡◌, ◌≤◌}
use Rattle.tape_summary.specs.Levels.{emptied, fallen, no_level, risen}
use Rattle.tape_summary.specs.declared.level.Level.{Level}
use Rattle.wire_summary.specs.Levels.{LevelsFrom}
use Rattle.wire_summary.specs.Places.{emptied_to, fallen_at, held_at, most_at, risen_at, taken}

-- ---- the list is as long as before

pub risen_long : (i n : ℕ) (ls : List Level) → length (risen_at i n ls) ≡ length ls
risen_long i n [] = refl
risen_long zero n (l ∷ ls) = refl
risen_long (suc i) n (l ∷ ls) = ap suc (risen_long i n ls)

pub fallen_long : (i n : ℕ) (ls : List Level) → length (fallen_at i n ls) ≡ length ls
fallen_long i n [] = refl
fallen_long zero n (l ∷ ls) = refl
fallen_long (suc i) n (l ∷ ls) = ap suc (fallen_long i n ls)

-- ---- a place that isn't there

pub risen_beyond : (i n : ℕ) (ls : List Level) → length ls ≤ i → risen_at i n ls ≡ ls
risen_beyond i n [] le = refl
risen_beyond zero n (l ∷ ls) le = absurd (omega (arith, le))
risen_beyond (suc i) n (l ∷ ls) le = ap (λ v. l ∷ v) (risen_beyond i n ls (omega (arith, le)))

pub fallen_beyond : (i n : ℕ) (ls : List Level) → length ls ≤ i → fallen_at i n ls ≡ ls
fallen_beyond i n [] le = refl
fallen_beyond zero n (l ∷ ls) le = absurd (omega (arith, le))
fallen_beyond (suc i) n (l ∷ ls) le = ap (λ v. l ∷ v) (fallen_beyond i n ls (omega (arith, le)))

pub held_beyond : (i : ℕ) (ls : List Level) → length ls ≤ i → held_at i ls ≡ 0
held_beyond i [] le = refl
held_beyond zero (l ∷ ls) le = absurd (omega (arith, le))
held_beyond (suc i) (l ∷ ls) le = held_beyond i ls (omega (arith, le))

-- ---- places

other_place : (q t : ℕ) → t < q → (q == t) ≡ false
other_place q t lt = grind (arith, nat_tests)

place_before : (q t : ℕ) → q < t → (q == t) ≡ false
place_before q t lt = grind (arith, nat_tests)

pub same_from : (a b : ℕ → Level) (p : ℕ) (ls : List Level) → ((q : ℕ) → p ≤ q → q < p + length ls → a q ≡ b q) → LevelsFrom a p ls → LevelsFrom b p ls
same_from a b p [] e l = tt
same_from a b p (x ∷ ls) e l = (l.0 ∙ e p (omega arith) (omega arith), same_from a b (suc p) ls (λ q le lt. e q (omega (arith, le)) (omega (arith, lt))) l.1)

-- the level of the place t changes, and no other
pub risen_from : (a b : ℕ → Level) (p t i n : ℕ) (ls : List Level) → t ≡ p + i → ((q : ℕ) → (q == t) ≡ false → a q ≡ b q) → risen (a t) n ≡ b t → LevelsFrom a p ls → LevelsFrom b p (risen_at i n ls)
risen_from a b p t i n [] is others here l = tt
risen_from a b p t zero n (x ∷ ls) is others here l =
    let at : t ≡ p = omega (arith, is) in
    let first : risen (a p) n ≡ b p = (let P : ℕ → Type 0 = λ v. risen (a v) n ≡ b v in subst P at here) in
    (ap (λ v. risen v n) l.0 ∙ first, same_from a b (suc p) ls (λ q le lt. others q (other_place q t (omega (arith, at, le)))) l.1)
risen_from a b p t (suc i) n (x ∷ ls) is others here l =
    (l.0 ∙ others p (place_before p t (omega (arith, is))), risen_from a b (suc p) t i n ls (omega (arith, is)) others here l.1)

pub fallen_from : (a b : ℕ → Level) (p t i n : ℕ) (ls : List Level) → t ≡ p + i → ((q : ℕ) → (q == t) ≡ false → a q ≡ b q) → fallen (a t) n ≡ b t → LevelsFrom a p ls → LevelsFrom b p (fallen_at i n ls)
fallen_from a b p t i n [] is others here l = tt
fallen_from a b p t zero n (x ∷ ls) is others here l =
    let at : t ≡ p = omega (arith, is) in
    let first : fallen (a p) n ≡ b p = (let P : ℕ → Type 0 = λ v. fallen (a v) n ≡ b v in subst P at here) in
    (ap (λ v. fallen v n) l.0 ∙ first, same_from a b (suc p) ls (λ q le lt. others q (other_place q t (omega (arith, at, le)))) l.1)
fallen_from a b p t (suc i) n (x ∷ ls) is others here l =
    (l.0 ∙ others p (place_before p t (omega (arith, is))), fallen_from a b (suc p) t i n ls (omega (arith, is)) others here l.1)

pub emptied_from : (a b : ℕ → Level) (p : ℕ) (ls : List Level) → ((q : ℕ) → emptied (a q) ≡ b q) → LevelsFrom a p ls → LevelsFrom b p (map emptied ls)
emptied_from a b p [] e l = tt
emptied_from a b p (x ∷ ls) e l = (ap emptied l.0 ∙ e p, emptied_from a b (suc p) ls e l.1)

pub held_from : (a : ℕ → Level) (p t i : ℕ) (ls : List Level) → t ≡ p + i → i < length ls → LevelsFrom a p ls → held_at i ls ≡ (a t).held
held_from a p t i [] is lt l = absurd (omega (arith, lt))
held_from a p t zero (x ∷ ls) is lt l = ap (λ v. v.held) l.0 ∙ ap (λ v. (a v).held) (let k : p ≡ t = omega (arith, is) in k)
held_from a p t (suc i) (x ∷ ls) is lt l = held_from a (suc p) t i ls (omega (arith, is)) (omega (arith, lt)) l.1

pub most_from : (a : ℕ → Level) (p t i : ℕ) (ls : List Level) → t ≡ p + i → i < length ls → LevelsFrom a p ls → most_at i ls ≡ (a t).most
most_from a p t i [] is lt l = absurd (omega (arith, lt))
most_from a p t zero (x ∷ ls) is lt l = ap (λ v. v.most) l.0 ∙ ap (λ v. (a v).most) (let k : p ≡ t = omega (arith, is) in k)
most_from a p t (suc i) (x ∷ ls) is lt l = most_from a (suc p) t i ls (omega (arith, is)) (omega (arith, lt)) l.1

-- ---- one place of a vector

pub fallen_set : (i n : ℕ) (ls : List Level) (l : Level) → slice_get ls i ≡ Some l → slice_set ls i (fallen l (min n l.held)) ≡ fallen_at i (taken i n ls) ls
fallen_set zero n [] l e = cc
fallen_set (suc i) n [] l e = cc
fallen_set zero n (k ∷ ls) l e = let same : k ≡ l = cc in ap (λ (v : Level). fallen v (min n v.held) ∷ ls) (sym same)
fallen_set (suc i) n (k ∷ ls) l e = ap (λ v. k ∷ v) (fallen_set i n ls l e)

pub risen_set : (i n : ℕ) (ls : List Level) (l : Level) → slice_get ls i ≡ Some l → slice_set ls i (risen l n) ≡ risen_at i n ls
risen_set zero n [] l e = cc
risen_set (suc i) n [] l e = cc
risen_set zero n (k ∷ ls) l e = let same : k ≡ l = cc in ap (λ (v : Level). risen v n ∷ ls) (sym same)
risen_set (suc i) n (k ∷ ls) l e = ap (λ v. k ∷ v) (risen_set i n ls l e)

pub held_is : (i n : ℕ) (ls : List Level) (l : Level) → slice_get ls i ≡ Some l → min n l.held ≡ taken i n ls
held_is zero n [] l e = cc
held_is (suc i) n [] l e = cc
held_is zero n (k ∷ ls) l e = let same : k ≡ l = cc in ap (λ (v : Level). min n v.held) (sym same)
held_is (suc i) n (k ∷ ls) l e = held_is i n ls l e

pub most_is : (i : ℕ) (ls : List Level) (l : Level) → slice_get ls i ≡ Some l → l.most ≡ most_at i ls
most_is zero [] l e = cc
most_is (suc i) [] l e = cc
most_is zero (k ∷ ls) l e = let same : k ≡ l = cc in ap (λ (v : Level). v.most) (sym same)
most_is (suc i) (k ∷ ls) l e = most_is i ls l e

pub most_none : (i : ℕ) (ls : List Level) → slice_get ls i ≡ None → 0 ≡ most_at i ls
most_none i [] e = refl
most_none zero (k ∷ ls) e = cc
most_none (suc i) (k ∷ ls) e = most_none i ls e

pub taken_none : (i n : ℕ) (ls : List Level) → slice_get ls i ≡ None → 0 ≡ taken i n ls
taken_none i n [] e = omega arith
taken_none zero n (k ∷ ls) e = cc
taken_none (suc i) n (k ∷ ls) e = taken_none i n ls e

pub fallen_none : (i n : ℕ) (ls : List Level) → slice_get ls i ≡ None → ls ≡ fallen_at i n ls
fallen_none i n [] e = refl
fallen_none zero n (k ∷ ls) e = cc
fallen_none (suc i) n (k ∷ ls) e = ap (λ v. k ∷ v) (fallen_none i n ls e)

pub risen_none : (i n : ℕ) (ls : List Level) → slice_get ls i ≡ None → ls ≡ risen_at i n ls
risen_none i n [] e = refl
risen_none zero n (k ∷ ls) e = cc
risen_none (suc i) n (k ∷ ls) e = ap (λ v. k ∷ v) (risen_none i n ls e)

-- ---- place after place is emptied

pub emptied_long : (i : ℕ) (ls : List Level) → length (emptied_to i ls) ≡ length ls
emptied_long zero ls = refl
emptied_long (suc i) [] = refl
emptied_long (suc i) (k ∷ ls) = ap suc (emptied_long i ls)

pub emptied_set : (i : ℕ) (ls items : List Level) (l : Level) → items ≡ emptied_to i ls → slice_get items i ≡ Some l → slice_set items i (emptied l) ≡ emptied_to (i + 1) ls
emptied_set i ls items l is e =
    let P : List Level → Type 0 = λ v. slice_get v i ≡ Some l → slice_set v i (emptied l) ≡ emptied_to (suc i) ls in
    let one : suc i ≡ i + 1 = omega arith in
    subst P (sym is) (by i ls) e ∙ ap (λ k. emptied_to k ls) one
  where
    by : (i : ℕ) (ls : List Level) → slice_get (emptied_to i ls) i ≡ Some l → slice_set (emptied_to i ls) i (emptied l) ≡ emptied_to (suc i) ls
    by zero [] e = cc
    by zero (k ∷ ls) e = let same : k ≡ l = cc in ap (λ (v : Level). emptied v ∷ ls) (sym same)
    by (suc i) [] e = cc
    by (suc i) (k ∷ ls) e = ap (λ v. emptied k ∷ v) (by i ls e)

pub emptied_all : (i : ℕ) (ls items : List Level) → items ≡ emptied_to i ls → slice_get items i ≡ None → items ≡ map emptied ls
emptied_all i ls items is e = is ∙ by i ls (let P : List Level → Type 0 = λ v. slice_get v i ≡ None in subst P is e)
  where
    by : (i : ℕ) (ls : List Level) → slice_get (emptied_to i ls) i ≡ None → emptied_to i ls ≡ map emptied ls
    by zero [] e = refl
    by zero (k ∷ ls) e = cc
    by (suc i) [] e = refl
    by (suc i) (k ∷ ls) e = ap (λ v. emptied k ∷ v) (by i ls e)
