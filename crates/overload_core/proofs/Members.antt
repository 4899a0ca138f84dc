-- Lists of classes whose members are told by a number for each.
use Rattle.std.proofs.Common.{◌≡◌, ℕ, zero, suc, ◌+◌, ◌<◌, ◌≤◌, Bool, true, false, cond, List, [], ◌∷◌, ◌++◌, length, get_or, refl, sym, ap, subst, ◌∙◌, true≢false, arith}
use Rattle.std.specs.Prelude.{◌||◌, ◌==◌, not, filter}
use Rattle.std.specs.List.{list_any}
use Rattle.std.proofs.lemmas.Bool.{eqb-true, eq-eqb}
use Rattle.std.proofs.lemmas.List.Kept.{AllPairs-filter}
use Rattle.std.proofs.lemmas.List.Quantifiers.{all_pairs_push}
use Rattle.std.proofs.lemmas.List.Folds.{list_any_at, list_any-append}
use Rattle.link_lists.proofs.Memory.{either}
use Rattle.overload_core.specs.Accounts.{class_from, class_in, without, appended, entered, in_class}
use Rattle.overload_core.specs.Course.{IsClass, AreClasses}
use Rattle.overload_core.proofs.Placing.{eqb_flips}

abbrev pub has : ℕ → List ℕ → Bool
has e l = list_any (λ x. x == e) l

pub same_number : (a b : ℕ) → a ≡ b → (a == b) ≡ true
same_number a b e = eq-eqb a b e

pub other_number : (a b : ℕ) → (a ≡ b → ⊥) → (a == b) ≡ false
other_number a b n = either (a == b) (λ t. absurd (n (eqb-true a b t))) (λ f. f)

pub not_equal : (a b : ℕ) → (a == b) ≡ false → a ≡ b → ⊥
not_equal a b f e = true≢false (sym (same_number a b e) ∙ f)

or_true : (b : Bool) → (b || true) ≡ true
or_true true = refl
or_true false = refl

or_false : (b : Bool) → (b || false) ≡ b
or_false true = refl
or_false false = refl

-- one that is at a place of the list is in it
pub has-at : (l : List ℕ) (i d : ℕ) → i < length l → has (get_or l i d) l ≡ true
has-at l i d h = list_any_at (λ x. x == get_or l i d) l i d h (same_number (get_or l i d) (get_or l i d) refl)

-- a list without e
has-without : (e f : ℕ) (l : List ℕ) → has f (filter (λ x. not (x == e)) l) ≡ cond (f == e) false (has f l)
has-without e f [] = either (f == e) (λ t. rw t refl) (λ n. rw n refl)
has-without e f (x ∷ l) = let rest = has-without e f l in
    either (x == e)
    (λ t. either (f == e)
    (λ g. rw (t, g) (rest ∙ ap (λ b. cond b false (has f l)) g))
    (λ n. let away : (x == f) ≡ false = other_number x f (λ q. not_equal f e n (sym q ∙ eqb-true x e t)) in
    rw (t, n, away) (rest ∙ ap (λ b. cond b false (has f l)) n)))
    (λ o. either (f == e)
    (λ g. let away : (x == f) ≡ false = other_number x f (λ q. not_equal x e o (q ∙ eqb-true f e g)) in
    rw (o, g, away) (rest ∙ ap (λ b. cond b false (has f l)) g))
    (λ n. rw (o, n) (ap (λ b. (x == f) || b) (rest ∙ ap (λ b. cond b false (has f l)) n))))

-- What the classes say of one another.
module _ (place : ℕ → ℕ) (Before : ℕ → ℕ → ℕ → Type 0) where
  pub placed_at : (k : ℕ) (l : List ℕ) (i d : ℕ) → IsClass place Before k l → i < length l → place (get_or l i d) ≡ k
  placed_at k l i d h below = eqb-true (place (get_or l i d)) k (sym (h.those (get_or l i d)) ∙ has-at l i d below)

  -- the class that is found is the place, where that is one of these classes
  pub class-found : (k e : ℕ) (ls : List (List ℕ)) → AreClasses place Before k ls → k ≤ place e → place e < k + length ls → class_from k e ls ≡ place e
  unfolding class_from
  class-found k e [] h low high = absurd (omega (arith, low, high))
  class-found k e (l ∷ ls) h low high =
      either (place e == k)
      (λ t. let here : has e l ≡ true = h.0.those e ∙ t in rw here (sym (eqb-true (place e) k t)))
      (λ f. let here : has e l ≡ false = h.0.those e ∙ f in let n = not_equal (place e) k f in
      rw here (class-found (k + 1) e ls h.1 (omega (arith, low, n)) (omega (arith, high))))

  pub class-none : (k e : ℕ) (ls : List (List ℕ)) → AreClasses place Before k ls → place e < k → class_from k e ls ≡ 0
  unfolding class_from
  class-none k e [] h low = refl
  class-none k e (l ∷ ls) h low =
      let here : has e l ≡ false = h.0.those e ∙ other_number (place e) k (λ q. omega (arith, low, q)) in
      rw here (class-none (k + 1) e ls h.1 (omega (arith, low)))

  pub class-is : (e : ℕ) (ls : List (List ℕ)) → length ls ≡ 8 → place e ≤ 8 → AreClasses place Before 1 ls → class_in e ls ≡ place e
  class-is e ls eight most h = either (place e == 0)
      (λ t. let none = eqb-true (place e) 0 t in class-none 1 e ls h (omega (arith, none)) ∙ sym none)
      (λ f. let some = not_equal (place e) 0 f in class-found 1 e ls h (omega (arith, some)) (omega (arith, eight, most)))

  -- other places, and another order of those in a class
  module _ (other : ℕ → ℕ) (Order : ℕ → ℕ → ℕ → Type 0) where
    retold-one : (k : ℕ) (l : List ℕ) → ((e : ℕ) → (other e == k) ≡ (place e == k)) → ((x y : ℕ) → place x ≡ k → place y ≡ k → Before k x y → Order k x y) → IsClass place Before k l → IsClass other Order k l
    retold-one k l same order h = record {
      those = λ e. h.those e ∙ sym (same e);
      order = λ i j d less below. order (get_or l i d) (get_or l j d) (placed_at k l i d h (omega (arith, less, below))) (placed_at k l j d h below) (h.order i j d less below);
    }

    pub retold : (m k : ℕ) (ls : List (List ℕ)) → m ≤ k → ((e n : ℕ) → m ≤ n → (other e == n) ≡ (place e == n)) → ((n x y : ℕ) → m ≤ n → place x ≡ n → place y ≡ n → Before n x y → Order n x y)
        → AreClasses place Before k ls → AreClasses other Order k ls
    retold m k [] low same order h = tt
    retold m k (l ∷ ls) low same order h = (
      retold-one k l (λ e. same e k low) (λ x y p q r. order k x y low p q r) h.0,
      retold m (k + 1) ls (omega (arith, low)) same order h.1,
    )

  module _ (e : ℕ) (other : ℕ → ℕ) where
    -- e leaves its class
    left-one : (k : ℕ) (l : List ℕ) → 0 < k → ((x : ℕ) → other x ≡ cond (x == e) 0 (place x)) → IsClass place Before k l → IsClass other Before k (filter (λ x. not (x == e)) l)
    left-one k l some told h = record {
      those = λ f. has-without e f l ∙ ap (λ b. cond (f == e) false b) (h.those f) ∙ either (f == e)
          (λ t. rw (told f, t) (sym (other_number 0 k (λ q. omega (arith, some, q)))))
          (λ n. rw (told f, n) refl);
      order = AllPairs-filter (Before k) (λ x. not (x == e)) l h.order;
    }

    pub left : (k : ℕ) (ls : List (List ℕ)) → 0 < k → ((x : ℕ) → other x ≡ cond (x == e) 0 (place x)) → AreClasses place Before k ls → AreClasses other Before k (without e ls)
    left k [] some told h = tt
    left k (l ∷ ls) some told h = (left-one k l some told h.0, left (k + 1) ls (omega arith) told h.1)

    -- e, which is in no class, comes last in class k + j
    has-last : (f : ℕ) (l : List ℕ) → has f (l ++ e ∷ []) ≡ (has f l || (e == f))
    has-last f l = list_any-append (λ x. x == f) l (e ∷ []) ∙ ap (λ b. has f l || b) (or_false (e == f))

    joined-one : (k : ℕ) (l : List ℕ) → place e ≡ 0 → 0 < k → ((x : ℕ) → place x ≡ k → Before k x e) → ((x : ℕ) → other x ≡ cond (x == e) k (place x)) → IsClass place Before k l → IsClass other Before k (l ++ e ∷ [])
    joined-one k l none some last told h = record {
      those = λ f. has-last f l ∙ either (f == e)
          (λ t. let q = eqb-true f e t in let here : (e == f) ≡ true = same_number e f (sym q) in rw (here, told f, t, same_number k k refl) (or_true (has f l)))
          (λ n. let away : (e == f) ≡ false = eqb_flips e f ∙ n in rw (away, told f, n) (or_false (has f l) ∙ h.those f));
      order = all_pairs_push (Before k) l e h.order (λ i d below. last (get_or l i d) (placed_at k l i d h below));
    }

    apart : (k n : ℕ) → place e ≡ 0 → 0 < n → (n ≡ k → ⊥) → ((x : ℕ) → other x ≡ cond (x == e) k (place x)) → (x : ℕ) → (other x == n) ≡ (place x == n)
    apart k n none some away told x = either (x == e)
        (λ t. let q = eqb-true x e t in let gone : place x ≡ 0 = ap place q ∙ none in
        rw (told x, t, gone) (other_number k n (λ r. away (sym r)) ∙ sym (other_number 0 n (λ r. omega (arith, some, r)))))
        (λ f. rw (told x, f) refl)

    pub joined : (k j m : ℕ) (ls : List (List ℕ)) → m ≡ k + j → j < length ls → place e ≡ 0 → 0 < k → ((x : ℕ) → place x ≡ m → Before m x e) → ((x : ℕ) → other x ≡ cond (x == e) m (place x))
        → AreClasses place Before k ls → AreClasses other Before k (appended j e ls)
    unfolding appended
    joined k j m [] at below none some last told h = absurd (omega (arith, below))
    joined k zero m (l ∷ ls) at below none some last told h =
        let here : m ≡ k = omega (arith, at) in (
          subst (λ c. IsClass other Before c (l ++ e ∷ [])) here (joined-one m l none (omega (arith, some, at)) last told (subst (λ c. IsClass place Before c l) (sym here) h.0)),
          retold other Before (k + 1) (k + 1) ls (omega arith) (λ x n low. apart m n none (omega (arith, low)) (λ r. omega (arith, low, r, here)) told x) (λ n x y low p q r. r) h.1,
        )
    joined k (suc j) m (l ∷ ls) at below none some last told h = (
      retold-one other Before k l (λ x. apart m k none some (λ r. omega (arith, at, r)) told x) (λ x y p q r. r) h.0,
      joined (k + 1) j m ls (omega (arith, at)) (omega (arith, below)) none (omega arith) last told h.1,
    )

same-length-without : (e : ℕ) (ls : List (List ℕ)) → length (without e ls) ≡ length ls
same-length-without e [] = refl
same-length-without e (l ∷ ls) = ap suc (same-length-without e ls)

same-length-appended : (k e : ℕ) (ls : List (List ℕ)) → length (appended k e ls) ≡ length ls
unfolding appended
same-length-appended k e [] = refl
same-length-appended zero e (l ∷ ls) = refl
same-length-appended (suc k) e (l ∷ ls) = ap suc (same-length-appended k e ls)

length-entered : (k e : ℕ) (ls : List (List ℕ)) → length (entered k e (without e ls)) ≡ length ls
length-entered zero e ls = same-length-without e ls
length-entered (suc k) e ls = same-length-appended k e (without e ls) ∙ same-length-without e ls

pub length-without : (e : ℕ) (ls : List (List ℕ)) → length (without e ls) ≡ length ls
length-without = same-length-without

pub length-in-class : (k e : ℕ) (ls : List (List ℕ)) → length (in_class k e ls) ≡ length ls
length-in-class k e ls = either (class_in e ls == k) (λ t. rw t refl) (λ f. rw f (length-entered k e ls))

-- the classes once e is in class j
module _ (place : ℕ → ℕ) (Before : ℕ → ℕ → ℕ → Type 0) (e : ℕ) (other : ℕ → ℕ) where
  kept : (j x : ℕ) → cond (x == e) 0 (place x) ≡ suc j → place x ≡ suc j
  kept j x q = either (x == e)
      (λ t. let bad : 0 ≡ suc j = rw t at q in absurd (omega (arith, bad)))
      (λ f. rw f at q)

  stays : (j : ℕ) → place e ≡ j → (x : ℕ) → other x ≡ cond (x == e) j (place x) → other x ≡ place x
  stays j same x told = told ∙ either (x == e)
      (λ t. rw t (sym same ∙ ap place (sym (eqb-true x e t))))
      (λ f. rw f refl)

  set_to : (j : ℕ) (ls : List (List ℕ)) → length ls ≡ 8 → j ≤ 8 → (0 < j → (x : ℕ) → place x ≡ j → Before j x e) → ((x : ℕ) → other x ≡ cond (x == e) j (place x))
      → AreClasses place Before 1 ls → AreClasses other Before 1 (entered j e (without e ls))
  set_to zero ls eight most last told h = left place Before e other 1 ls (omega arith) told h
  set_to (suc j) ls eight most last told h =
      let mid : ℕ → ℕ = λ x. cond (x == e) 0 (place x) in
      let none : mid e ≡ 0 = ap (λ b. cond b 0 (place e)) (same_number e e refl) in
      let length_kept = length-without e ls in
      joined mid Before e other 1 j (suc j) (without e ls) (omega arith) (omega (arith, eight, most, length_kept)) none (omega arith)
      (λ x q. last (omega arith) x (kept j x q)) (λ x. told x ∙ either (x == e) (λ t. rw t refl) (λ f. rw f refl))
      (left place Before e mid 1 ls (omega arith) (λ x. refl) h)

  pub set_class : (j : ℕ) (ls : List (List ℕ)) → length ls ≡ 8 → place e ≤ 8 → j ≤ 8 → ((place e ≡ j → ⊥) → 0 < j → (x : ℕ) → place x ≡ j → Before j x e) → ((x : ℕ) → other x ≡ cond (x == e) j (place x))
      → AreClasses place Before 1 ls → AreClasses other Before 1 (in_class j e ls)
  set_class j ls eight high most last told h =
      let found : class_in e ls ≡ place e = class-is place Before e ls eight high h in
      either (place e == j)
      (λ t. let there : (class_in e ls == j) ≡ true = ap (λ c. c == j) found ∙ t in rw there (retold place Before other Before 1 1 ls (omega arith) (λ x n low. ap (λ c. c == n) (stays j (eqb-true (place e) j t) x (told x))) (λ n x y low p q r. r) h))
      (λ f. let away : (class_in e ls == j) ≡ false = ap (λ c. c == j) found ∙ f in rw away (set_to j ls eight most (last (not_equal (place e) j f)) told h))
