-- Things that are put in order one by one, of which the first are kept.
use Rattle.std.proofs.Common.{ap, arith, inl, inr, refl, subst, sym, ◌∙◌}
use Rattle.std.proofs.lemmas.Bool.{ltb-false, ltb-true}
use Rattle.std.proofs.lemmas.List.Elements.{All-cons, All-contains, All-head, All-nil, All-tail, All-take, All-weaker, Contains-append_cases, Contains-append_left, Contains-append_right, Contains-push, Contains-push_cases}
use Rattle.std.proofs.lemmas.List.{length-take, take-append-drop, take_all}
use Rattle.std.specs.List.{Contains}
use Rattle.std.specs.Prelude.{All, Bool, List, [], drop, false, if◌then◌else◌, length, nat_lt, suc, take, true, zero, ℕ, ◌++◌, ◌∷◌, ◌≡◌, ◌≤◌, ◌⊎◌}
use Rattle.tape_plot.specs.Highest.{AreInOrder}

-- behind all that it doesn't come before
abbrev pub put_by : {X : Type 0} → (X → X → Bool) → X → List X → List X
put_by comes x [] = x ∷ []
put_by comes x (y ∷ ys) = if comes x y then x ∷ y ∷ ys else y ∷ put_by comes x ys

-- ---- only the first are kept

take_less : {X : Type 0} (m n : ℕ) (xs : List X) → m ≤ n → take m (take n xs) ≡ take m xs
take_less zero n xs le = refl
take_less (suc m) zero xs le = absurd (omega (arith, le))
take_less (suc m) (suc n) [] le = refl
take_less (suc m) (suc n) (x ∷ xs) le = ap (λ v. x ∷ v) (take_less m n xs (omega (arith, le)))

take_front : {X : Type 0} (m : ℕ) (y : X) (ys : List X) → take m (y ∷ take m ys) ≡ take m (y ∷ ys)
take_front zero y ys = refl
take_front (suc m) y ys = ap (λ v. y ∷ v) (take_less m (suc m) ys (omega arith))

pub take_put : {X : Type 0} (comes : X → X → Bool) (n : ℕ) (x : X) (xs : List X) → take n (put_by comes x (take n xs)) ≡ take n (put_by comes x xs)
take_put comes zero x xs = refl
take_put comes (suc n) x [] = refl
take_put comes (suc n) x (y ∷ ys) = by (comes x y) (take_put comes n x ys)
  where
    by : (b : Bool) → take n (put_by comes x (take n ys)) ≡ take n (put_by comes x ys)
        → take (suc n) (if b then x ∷ y ∷ take n ys else y ∷ put_by comes x (take n ys)) ≡ take (suc n) (if b then x ∷ y ∷ ys else y ∷ put_by comes x ys)
    by true e = ap (λ v. x ∷ v) (take_front n y ys)
    by false e = ap (λ v. y ∷ v) e

-- ---- what is in the list

pub in_head : {X : Type 0} (x : X) (xs : List X) → Contains (x ∷ xs) x
in_head x xs = Contains-append_left (x ∷ []) xs x (Contains-push [] x)

in_tail : {X : Type 0} (y : X) (xs : List X) (x : X) → Contains xs x → Contains (y ∷ xs) x
in_tail y xs x there = Contains-append_right (y ∷ []) xs x there

in_none : {X : Type 0} (x : X) → Contains [] x → ⊥
in_none x there = omega (arith, there.1)

in_one : {X : Type 0} (y x : X) → Contains (y ∷ []) x → y ≡ x
in_one y x there = by (Contains-push_cases [] y x there)
  where
    by : Contains [] x ⊎ (y ≡ x) → y ≡ x
    by (inl none) = absurd (in_none x none)
    by (inr e) = e

pub put_has : {X : Type 0} (comes : X → X → Bool) (x : X) (xs : List X) → Contains (put_by comes x xs) x
put_has comes x [] = in_head x []
put_has comes x (y ∷ ys) = by (comes x y) (put_has comes x ys)
  where
    by : (b : Bool) → Contains (put_by comes x ys) x → Contains (if b then x ∷ y ∷ ys else y ∷ put_by comes x ys) x
    by true has = in_head x (y ∷ ys)
    by false has = in_tail y (put_by comes x ys) x has

pub put_keeps : {X : Type 0} (comes : X → X → Bool) (x : X) (xs : List X) (z : X) → Contains xs z → Contains (put_by comes x xs) z
put_keeps comes x [] z there = absurd (in_none z there)
put_keeps comes x (y ∷ ys) z there = by (comes x y) (Contains-append_cases (y ∷ []) ys z there) (put_keeps comes x ys z)
  where
    by : (b : Bool) → Contains (y ∷ []) z ⊎ Contains ys z → (Contains ys z → Contains (put_by comes x ys) z) → Contains (if b then x ∷ y ∷ ys else y ∷ put_by comes x ys) z
    by true at keeps = in_tail x (y ∷ ys) z there
    by false (inl at) keeps = subst (Contains (y ∷ put_by comes x ys)) (in_one y z at) (in_head y (put_by comes x ys))
    by false (inr at) keeps = in_tail y (put_by comes x ys) z (keeps at)

pub put_all : {X : Type 0} (P : X → Type 0) (comes : X → X → Bool) (x : X) (xs : List X) → All P xs → P x → All P (put_by comes x xs)
put_all P comes x [] all one = All-cons P x [] one (All-nil P)
put_all P comes x (y ∷ ys) all one = by (comes x y) (put_all P comes x ys (All-tail P y ys all) one)
  where
    by : (b : Bool) → All P (put_by comes x ys) → All P (if b then x ∷ y ∷ ys else y ∷ put_by comes x ys)
    by true rest = All-cons P x (y ∷ ys) one all
    by false rest = All-cons P y (put_by comes x ys) (All-head P y ys all) rest

-- ---- the order

-- of two of these one comes before the other, and what comes before a thing comes before all behind that
pub put_in_order : {X : Type 0} (comes : X → X → Bool) (x : X) (xs : List X) → ((a b c : X) → comes a b ≡ true → comes b c ≡ true → comes a c ≡ true)
    → All (λ y. comes x y ≡ false → comes y x ≡ true) xs → AreInOrder comes xs → AreInOrder comes (put_by comes x xs)
put_in_order comes x [] through meets order = (All-nil (λ y. comes x y ≡ true), tt)
put_in_order comes x (y ∷ ys) through meets order =
    by (comes x y) refl (put_in_order comes x ys through (All-tail (λ v. comes x v ≡ false → comes v x ≡ true) y ys meets) order.1)
  where
    by : (b : Bool) → comes x y ≡ b → AreInOrder comes (put_by comes x ys) → AreInOrder comes (if b then x ∷ y ∷ ys else y ∷ put_by comes x ys)
    by true e rest =
        (All-cons (λ v. comes x v ≡ true) y ys e (All-weaker (λ v. comes y v ≡ true) (λ v. comes x v ≡ true) (λ v f. through x y v e f) ys order.0), order)
    by false e rest = (put_all (λ v. comes y v ≡ true) comes x ys order.0 (All-head (λ v. comes x v ≡ false → comes v x ≡ true) y ys meets e), rest)

front_in_order : {X : Type 0} (comes : X → X → Bool) (n : ℕ) (xs : List X) → AreInOrder comes xs → AreInOrder comes (take n xs)
front_in_order comes zero xs order = tt
front_in_order comes (suc n) [] order = tt
front_in_order comes (suc n) (x ∷ xs) order = (All-take (λ v. comes x v ≡ true) n xs order.0, front_in_order comes n xs order.1)

pub behind_all : {X : Type 0} (comes : X → X → Bool) (xs ys : List X) (y : X) → AreInOrder comes (xs ++ ys) → Contains ys y → All (λ x. comes x y ≡ true) xs
behind_all comes [] ys y order there = All-nil (λ x. comes x y ≡ true)
behind_all comes (x ∷ xs) ys y order there =
    All-cons (λ v. comes v y ≡ true) x xs (All-contains (λ v. comes x v ≡ true) (xs ++ ys) y order.0 (Contains-append_right xs ys y there)) (behind_all comes xs ys y order.1 there)

-- the first of a list in order: there are so many, or they are all; and each other thing of the list comes behind them
pub record AreFirst {X : Type 0} (comes : X → X → Bool) (n : ℕ) (all picked : List X) : Type 0 where
  pub few : length picked ≤ n
  pub enough : (length picked ≡ n) ⊎ ((x : X) → Contains all x → Contains picked x)
  pub order : AreInOrder comes picked
  pub others : (x : X) → Contains all x → Contains picked x ⊎ All (λ y. comes y x ≡ true) picked

pub first_of : {X : Type 0} (comes : X → X → Bool) (n : ℕ) (xs : List X) → AreInOrder comes xs → AreFirst comes n xs (take n xs)
first_of {X} comes n xs order = record {
  few = omega (arith, length-take n xs);
  enough = by (nat_lt (length xs) n) refl;
  order = front_in_order comes n xs order;
  others = λ x there. parted x (Contains-append_cases (take n xs) (drop n xs) x (subst (λ (v : List X). Contains v x) (sym (take-append-drop n xs)) there));
}
  where
    by : (b : Bool) → nat_lt (length xs) n ≡ b → (length (take n xs) ≡ n) ⊎ ((x : X) → Contains xs x → Contains (take n xs) x)
    by true e = inr (λ x there. subst (λ (v : List X). Contains v x) (sym (take_all n xs (omega (arith, ltb-true (length xs) n e)))) there)
    by false e = inl (omega (arith, length-take n xs, ltb-false (length xs) n e))

    parted : (x : X) → Contains (take n xs) x ⊎ Contains (drop n xs) x → Contains (take n xs) x ⊎ All (λ y. comes y x ≡ true) (take n xs)
    parted x (inl there) = inl there
    parted x (inr there) = inr (behind_all comes (take n xs) (drop n xs) x (subst (AreInOrder comes) (sym (take-append-drop n xs)) order) there)
