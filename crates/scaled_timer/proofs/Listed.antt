-- How the timers of the lists change with the lists.
use Rattle.std.proofs.Common.{◌≡◌, ℕ, zero, suc, ◌+◌, ◌<◌, ◌≤◌, Bool, true, false, cond, List, [], ◌∷◌, ◌++◌, map, length, refl, sym, ap, ◌∙◌, subst, append_assoc, length-append, ◌-◌, ◌^◌, replicate, lit<, true≢false, arith}
use Rattle.std.specs.Prelude.{◌||◌, ⊤, nat_eq, Option, None, Some, MatchOption}
use Rattle.std.specs.List.{AllByRecursion, IsDistinct}
use Rattle.std.proofs.lemmas.List.{map-append, length-replicate}
use Rattle.std.proofs.lemmas.Bool.{eqb-true, eq-eqb}
use denote.RawPtr.{Ptr}
use Rattle.link_lists.specs.Places.{same_ptr}
use Rattle.link_lists.specs.Lists.{has, pull, has_node, pull_from, push_at, front_of, head_of}
use Rattle.link_lists.proofs.Memory.{either, same_ptr_eq, same_ptr_refl}
use Rattle.link_lists.proofs.Edges.{same_ptr_symm}
use Rattle.link_lists.proofs.Splits.{all_left, all_right, all_both, all_unmap, distinct_without, distinct_differs, distinct_with, alike_cut}
use Rattle.link_lists.proofs.Facts.{length-push_at, length-pull_from}
use Rattle.scaled_timer.specs.declared.timers.Entry.{Entry}
use Rattle.scaled_timer.specs.Order.{placed, in_order}
use Rattle.scaled_timer.specs.Due.{Armed}
use Rattle.scaled_timer.specs.Timing.{has_timer, without_timer}
use Rattle.scaled_timer.specs.Entries.{Aged, aged, all_from, armed_of, Rises, Kept}
use Rattle.scaled_timer.proofs.Sorting.{placed-later, placed-here, by_key, in_order-last, in_order-cut, all-in_order, length-in_order, Cut}

abbrev age_of : Aged → ℕ
age_of a = a.0

abbrev name_of : Aged → Ptr
name_of a = a.1.timer

swap_tests : (a b c : Bool) → cond a true (cond b true c) ≡ cond b true (cond a true c)
swap_tests true true c = refl
swap_tests true false c = refl
swap_tests false true c = refl
swap_tests false false c = refl

pub eqb_flips : (a b : ℕ) → nat_eq a b ≡ nat_eq b a
eqb_flips a b = either (nat_eq a b)
    (λ t. t ∙ sym (eq-eqb b a (sym (eqb-true a b t))))
    (λ f. f ∙ either (nat_eq b a) (λ t. absurd (true≢false (sym (eq-eqb a b (sym (eqb-true b a t))) ∙ f))) (λ g. sym g))

pub differ : (a b : ℕ) → b < a → nat_eq a b ≡ false
differ a b h = either (nat_eq a b) (λ t. let e = eqb-true a b t in absurd (omega (arith, e, h))) (λ f. f)

-- where a new timer stands among the others
pub record Added (a : Aged) (old new : List Aged) : Type 0 where
  pub before : List Aged
  pub behind : List Aged
  pub was : old ≡ before ++ behind
  pub is : new ≡ before ++ a ∷ behind

map-snoc : (k : ℕ) (l : List (Ptr × Entry)) (n : Ptr × Entry) → map (aged k) (l ++ n ∷ []) ≡ map (aged k) l ++ aged k n ∷ []
map-snoc k l n = map-append (aged k) l (n ∷ [])

pub push-added : (k j m : ℕ) (n : Ptr × Entry) (ls : List (List (Ptr × Entry))) → m ≡ k + j → j < length ls → Added (aged m n) (all_from k ls) (all_from k (push_at j n ls))
unfolding all_from push_at
push-added k j m n [] e h = absurd (omega arith)
push-added k zero m n (l ∷ ls) e h = record {
  before = map (aged k) l;
  behind = all_from (k + 1) ls;
  was = refl;
  is = ap (λ r. r ++ all_from (k + 1) ls) (map-snoc k l n) ∙ append_assoc (map (aged k) l) (aged k n ∷ []) (all_from (k + 1) ls)
      ∙ ap (λ i. map (aged k) l ++ aged i n ∷ all_from (k + 1) ls) (let q : k ≡ m = omega arith in q);
}
push-added k (suc j) m n (l ∷ ls) e h =
    let on = push-added (k + 1) j m n ls (omega arith) (omega arith) in let mine = map (aged k) l in
    record {
      before = mine ++ on.before;
      behind = on.behind;
      was = ap (λ r. mine ++ r) on.was ∙ sym (append_assoc mine on.before on.behind);
      is = ap (λ r. mine ++ r) on.is ∙ sym (append_assoc mine on.before (aged m n ∷ on.behind));
    }

-- the timer that leaves
pub record Gone (p : Ptr) (old new : List Aged) : Type 0 where
  pub timer : Aged
  pub name : timer.1.timer ≡ p
  pub at : Added timer new old

list-gone : (k : ℕ) (p : Ptr) (l : List (Ptr × Entry)) → has p l ≡ true → Gone p (map (aged k) l) (map (aged k) (pull p l))
unfolding has pull
list-gone k p [] h = cc
list-gone k p (n ∷ l) h = either (same_ptr p n.0)
    (λ t. record {
      timer = aged k n;
      name = sym (same_ptr_eq p n.0 t);
      at = record { before = []; behind = map (aged k) l; was = ap (λ c. map (aged k) (cond c l (n ∷ pull p l))) t; is = refl };
    })
    (λ f. let on = list-gone k p l (sym (ap (λ c. cond c true (has p l)) f) ∙ h) in record {
      timer = on.timer;
      name = on.name;
      at = record {
        before = aged k n ∷ on.at.before;
        behind = on.at.behind;
        was = ap (λ c. map (aged k) (cond c l (n ∷ pull p l))) f ∙ ap (λ r. aged k n ∷ r) on.at.was;
        is = ap (λ r. aged k n ∷ r) on.at.is;
      };
    })

pub pull-gone : (k : ℕ) (p : Ptr) (ls : List (List (Ptr × Entry))) → has_node p ls ≡ true → Gone p (all_from k ls) (all_from k (pull_from p ls))
unfolding has_node pull_from all_from
pull-gone k p [] h = cc
pull-gone k p (l ∷ ls) h = let rest = all_from (k + 1) ls in let mine = map (aged k) l in either (has p l)
    (λ t. let on = list-gone k p l t in record {
      timer = on.timer;
      name = on.name;
      at = record {
        before = on.at.before;
        behind = on.at.behind ++ rest;
        was = ap (λ c. all_from k (cond c (pull p l ∷ ls) (l ∷ pull_from p ls))) t ∙ ap (λ r. r ++ rest) on.at.was ∙ append_assoc on.at.before on.at.behind rest;
        is = ap (λ r. r ++ rest) on.at.is ∙ append_assoc on.at.before (on.timer ∷ on.at.behind) rest;
      };
    })
    (λ f. let on = pull-gone (k + 1) p ls (sym (ap (λ c. cond c true (has_node p ls)) f) ∙ h) in record {
      timer = on.timer;
      name = on.name;
      at = record {
        before = mine ++ on.at.before;
        behind = on.at.behind;
        was = ap (λ c. all_from k (cond c (pull p l ∷ ls) (l ∷ pull_from p ls))) f ∙ ap (λ r. mine ++ r) on.at.was ∙ sym (append_assoc mine on.at.before on.at.behind);
        is = ap (λ r. mine ++ r) on.at.is ∙ sym (append_assoc mine on.at.before (on.timer ∷ on.at.behind));
      };
    })

-- the first of a list is among the timers
head-among : (k : ℕ) (l : List (Ptr × Entry)) (n : Ptr × Entry) → head_of l ≡ Some n → (l' : List (Ptr × Entry)) × (l ≡ n ∷ l')
head-among k [] n h = cc
head-among k (m ∷ l) n h = (l, λ i. (ap (λ (o : Option (Ptr × Entry)). elim o as (λ _. Ptr × Entry) [ None ↦ m | Some c ↦ c ]) h) i ∷ l)

front-among : (k j m : ℕ) (n : Ptr × Entry) (ls : List (List (Ptr × Entry))) → m ≡ k + j → front_of j ls ≡ Some n → (xs : List Aged) × (ys : List Aged) × (all_from k ls ≡ xs ++ aged m n ∷ ys)
unfolding front_of all_from
front-among k j m n [] e h = cc
front-among k zero m n (l ∷ ls) e h =
    let on = head-among k l n h in let q : k ≡ m = omega arith in
    ([], map (aged k) on.0 ++ all_from (k + 1) ls, ap (λ r. map (aged k) r ++ all_from (k + 1) ls) on.1 ∙ ap (λ i. aged i n ∷ (map (aged k) on.0 ++ all_from (k + 1) ls)) q)
front-among k (suc j) m n (l ∷ ls) e h =
    let on = front-among (k + 1) j m n ls (omega arith) h in
    (map (aged k) l ++ on.0, on.1, ap (λ r. map (aged k) l ++ r) on.2 ∙ sym (append_assoc (map (aged k) l) on.0 (aged m n ∷ on.1)))

-- the timer that leaves with the first node of a list is that of the node
pub front-gone : (j : ℕ) (n : Ptr × Entry) (ls : List (List (Ptr × Entry))) → front_of j ls ≡ Some n → IsDistinct same_ptr (map name_of (all_from 0 ls)) → (g : Gone n.0 (all_from 0 ls) (all_from 0 (pull_from n.0 ls))) → g.timer ≡ aged j n
front-gone j n ls h d g =
    let on = front-among 0 j j n ls (omega arith) h in
    (alike_cut name_of same_ptr same_ptr_symm g.at.before g.timer g.at.behind on.0 (aged j n) on.1 (subst (λ l. IsDistinct same_ptr (map name_of l)) g.at.is d) (sym g.at.is ∙ on.2)
    (ap (λ q. same_ptr q n.0) g.name ∙ same_ptr_refl n.0)).1

-- names
has-append : (p : Ptr) (xs ys : List Aged) → has_timer p (map (λ a. a.1) (xs ++ ys)) ≡ (has_timer p (map (λ a. a.1) xs) || has_timer p (map (λ a. a.1) ys))
unfolding has_timer
has-append p [] ys = refl
has-append p (x ∷ xs) ys = ap (λ b. cond (same_ptr p x.1.timer) true b) (has-append p xs ys)
    ∙ elim (same_ptr p x.1.timer) as (λ b. cond b true (has_timer p (map (λ a. a.1) xs) || has_timer p (map (λ a. a.1) ys)) ≡ (cond b true (has_timer p (map (λ a. a.1) xs)) || has_timer p (map (λ a. a.1) ys))) [ true ↦ refl | false ↦ refl ]

pub has-list : (k : ℕ) (p : Ptr) (l : List (Ptr × Entry)) → has_timer p (map (λ a. a.1) (map (aged k) l)) ≡ has p l
unfolding has_timer has
has-list k p [] = refl
has-list k p (n ∷ l) = ap (λ b. cond (same_ptr p n.0) true b) (has-list k p l)

pub has-all : (k : ℕ) (p : Ptr) (ls : List (List (Ptr × Entry))) → has_timer p (map (λ a. a.1) (all_from k ls)) ≡ has_node p ls
unfolding has_timer has_node all_from
has-all k p [] = refl
has-all k p (l ∷ ls) = has-append p (map (aged k) l) (all_from (k + 1) ls) ∙ (λ i. has-list k p l i || has-all (k + 1) p ls i)
    ∙ elim (has p l) as (λ b. (b || has_node p ls) ≡ cond b true (has_node p ls)) [ true ↦ refl | false ↦ refl ]

has-placed : (p : Ptr) (x : Aged) (ys : List Aged) → has_timer p (map (λ a. a.1) (placed age_of x ys)) ≡ cond (same_ptr p x.1.timer) true (has_timer p (map (λ a. a.1) ys))
unfolding has_timer placed
has-placed p x [] = refl
has-placed p x (y ∷ ys) = by_key age_of x y
    (λ l. ap (λ r. has_timer p (map (λ a. a.1) r)) (placed-later age_of x y ys l) ∙ ap (λ b. cond (same_ptr p y.1.timer) true b) (has-placed p x ys)
    ∙ swap_tests (same_ptr p y.1.timer) (same_ptr p x.1.timer) (has_timer p (map (λ a. a.1) ys)))
    (λ l. ap (λ r. has_timer p (map (λ a. a.1) r)) (placed-here age_of x y ys l))

has-in_order : (p : Ptr) (xs : List Aged) → has_timer p (map (λ a. a.1) (in_order age_of xs)) ≡ has_timer p (map (λ a. a.1) xs)
unfolding has_timer in_order
has-in_order p [] = refl
has-in_order p (x ∷ xs) = has-placed p x (in_order age_of xs) ∙ ap (λ b. cond (same_ptr p x.1.timer) true b) (has-in_order p xs)

-- the armed timers are the nodes of the lists
pub has-armed : (p : Ptr) (ls : List (List (Ptr × Entry))) → has_timer p (armed_of ls) ≡ has_node p ls
has-armed p ls = has-in_order p (all_from 0 ls) ∙ has-all 0 p ls

absent : (p : Ptr) (xs : List Aged) → has_timer p (map (λ a. a.1) xs) ≡ false → AllByRecursion (λ (a : Aged). same_ptr p a.1.timer ≡ false) xs
unfolding has_timer
absent p [] h = tt
absent p (x ∷ xs) h = either (same_ptr p x.1.timer)
    (λ t. absurd (true≢false (sym (ap (λ b. cond b true (has_timer p (map (λ a. a.1) xs))) t) ∙ h)))
    (λ f. (f, absent p xs (sym (ap (λ b. cond b true (has_timer p (map (λ a. a.1) xs))) f) ∙ h)))

-- a new timer is the last
pub armed-push : (j : ℕ) (n : Ptr × Entry) (ls : List (List (Ptr × Entry))) → j < length ls → AllByRecursion (λ (a : Aged). a.0 < n.1.age) (all_from 0 ls) → armed_of (push_at j n ls) ≡ armed_of ls ++ (aged j n).1 ∷ []
armed-push j n ls h all =
    let a = push-added 0 j j n ls (omega arith) h in let snd : Aged → Armed = λ a. a.1 in
    ap (λ r. map snd (in_order age_of r)) a.is ∙ ap (map snd) (in_order-last age_of a.before (aged j n) a.behind (subst (AllByRecursion (λ (a : Aged). a.0 < n.1.age)) a.was all))
    ∙ map-append snd (in_order age_of (a.before ++ a.behind)) (aged j n ∷ []) ∙ ap (λ r. map snd (in_order age_of r) ++ (aged j n).1 ∷ []) (sym a.was)

-- where a timer that leaves stood in the order of arming
pub armed-cut : (p : Ptr) (ls : List (List (Ptr × Entry))) (g : Gone p (all_from 0 ls) (all_from 0 (pull_from p ls))) → Cut age_of g.timer (in_order age_of (all_from 0 ls)) (in_order age_of (all_from 0 (pull_from p ls)))
armed-cut p ls g =
    subst (λ r. Cut age_of g.timer (in_order age_of r) (in_order age_of (all_from 0 (pull_from p ls)))) (sym g.at.is)
    (subst (λ r. Cut age_of g.timer (in_order age_of (g.at.before ++ g.timer ∷ g.at.behind)) (in_order age_of r)) (sym g.at.was) (in_order-cut age_of g.at.before g.timer g.at.behind))

-- what holds of the timers that stay, in the order of arming
pub all-kept : (P : Aged → Type 0) (p : Ptr) (ls : List (List (Ptr × Entry))) (g : Gone p (all_from 0 ls) (all_from 0 (pull_from p ls))) → AllByRecursion P (g.at.before ++ g.at.behind)
    → let c = armed-cut p ls g in AllByRecursion P c.before × AllByRecursion P c.behind
all-kept P p ls g all =
    let c = armed-cut p ls g in
    let both = subst (AllByRecursion P) c.rest (all-in_order age_of P (all_from 0 (pull_from p ls)) (subst (AllByRecursion P) (sym g.at.was) all)) in
    (all_left P c.before c.behind both, all_right P c.before c.behind both)

without-cut : (p : Ptr) (us : List Aged) (x : Aged) (vs : List Aged) → AllByRecursion (λ (a : Aged). same_ptr p a.1.timer ≡ false) us → same_ptr p x.1.timer ≡ true → without_timer p (map (λ a. a.1) (us ++ x ∷ vs)) ≡ map (λ a. a.1) (us ++ vs)
unfolding without_timer
without-cut p [] x vs a t = ap (λ b. cond b (map (λ a. a.1) vs) (x.1 ∷ without_timer p (map (λ a. a.1) vs))) t
without-cut p (u ∷ us) x vs a t = ap (λ b. cond b (map (λ a. a.1) (us ++ x ∷ vs)) (u.1 ∷ without_timer p (map (λ a. a.1) (us ++ x ∷ vs)))) a.0 ∙ ap (λ r. u.1 ∷ r) (without-cut p us x vs a.1 t)

others_named : (p : Ptr) (ls : List (List (Ptr × Entry))) (g : Gone p (all_from 0 ls) (all_from 0 (pull_from p ls))) → IsDistinct same_ptr (map name_of (all_from 0 ls)) → AllByRecursion (λ (a : Aged). same_ptr p a.1.timer ≡ false) (g.at.before ++ g.at.behind)
others_named p ls g d =
    subst (λ q. AllByRecursion (λ (a : Aged). same_ptr q a.1.timer ≡ false) (g.at.before ++ g.at.behind)) g.name
    (distinct_differs name_of same_ptr same_ptr_symm g.at.before g.timer g.at.behind (subst (λ l. IsDistinct same_ptr (map name_of l)) g.at.is d))

pub armed-pull : (p : Ptr) (ls : List (List (Ptr × Entry))) → has_node p ls ≡ true → IsDistinct same_ptr (map name_of (all_from 0 ls)) → armed_of (pull_from p ls) ≡ without_timer p (armed_of ls)
armed-pull p ls h d =
    let g = pull-gone 0 p ls h in let c = armed-cut p ls g in let snd : Aged → Armed = λ a. a.1 in
    ap (map snd) c.rest
    ∙ sym (without-cut p c.before g.timer c.behind (all-kept (λ (a : Aged). same_ptr p a.1.timer ≡ false) p ls g (others_named p ls g d)).0 (ap (same_ptr p) g.name ∙ same_ptr_refl p))
    ∙ sym (ap (λ r. without_timer p (map snd r)) c.whole)

-- the invariant
rises-snoc : (l : List (Ptr × Entry)) (n : Ptr × Entry) → Rises l → AllByRecursion (λ (m : Ptr × Entry). (m.1.at ≤ n.1.at) × (m.1.age < n.1.age)) l → Rises (l ++ n ∷ [])
unfolding Rises
rises-snoc [] n r a = (tt, tt)
rises-snoc (m ∷ l) n r a = (all_both (λ (q : Ptr × Entry). (m.1.at ≤ q.1.at) × (m.1.age < q.1.age)) l (n ∷ []) r.0 (a.0, tt), rises-snoc l n r.1 a.1)

rises-push : (k j : ℕ) (n : Ptr × Entry) (ls : List (List (Ptr × Entry))) → AllByRecursion Rises ls → AllByRecursion (λ (a : Aged). (a.1.at ≤ n.1.at) × (a.0 < n.1.age)) (all_from k ls) → AllByRecursion Rises (push_at j n ls)
unfolding push_at all_from
rises-push k j n [] r a = tt
rises-push k zero n (l ∷ ls) r a =
    (rises-snoc l n r.0 (all_unmap (aged k) (λ (a : Aged). (a.1.at ≤ n.1.at) × (a.0 < n.1.age)) l (all_left (λ (a : Aged). (a.1.at ≤ n.1.at) × (a.0 < n.1.age)) (map (aged k) l) (all_from (k + 1) ls) a)), r.1)
rises-push k (suc j) n (l ∷ ls) r a = (r.0, rises-push (k + 1) j n ls r.1 (all_right (λ (a : Aged). (a.1.at ≤ n.1.at) × (a.0 < n.1.age)) (map (aged k) l) (all_from (k + 1) ls) a))

all-pull : (P : Ptr × Entry → Type 0) (p : Ptr) (l : List (Ptr × Entry)) → AllByRecursion P l → AllByRecursion P (pull p l)
unfolding pull
all-pull P p [] t = tt
all-pull P p (n ∷ l) t = either (same_ptr p n.0)
    (λ e. subst (λ c. AllByRecursion P (cond c l (n ∷ pull p l))) (sym e) t.1)
    (λ f. subst (λ c. AllByRecursion P (cond c l (n ∷ pull p l))) (sym f) (t.0, all-pull P p l t.1))

list-rises : (p : Ptr) (l : List (Ptr × Entry)) → Rises l → Rises (pull p l)
unfolding pull Rises
list-rises p [] t = tt
list-rises p (n ∷ l) t = either (same_ptr p n.0)
    (λ e. subst (λ c. Rises (cond c l (n ∷ pull p l))) (sym e) t.1)
    (λ f. subst (λ c. Rises (cond c l (n ∷ pull p l))) (sym f) (all-pull (λ (m : Ptr × Entry). (n.1.at ≤ m.1.at) × (n.1.age < m.1.age)) p l t.0, list-rises p l t.1))

rises-pull : (p : Ptr) (ls : List (List (Ptr × Entry))) → AllByRecursion Rises ls → AllByRecursion Rises (pull_from p ls)
unfolding pull_from
rises-pull p [] t = tt
rises-pull p (l ∷ ls) t = either (has p l)
    (λ e. subst (λ c. AllByRecursion Rises (cond c (pull p l ∷ ls) (l ∷ pull_from p ls))) (sym e) (list-rises p l t.0, t.1))
    (λ f. subst (λ c. AllByRecursion Rises (cond c (pull p l ∷ ls) (l ∷ pull_from p ls))) (sym f) (t.0, rises-pull p ls t.1))

all_weaker : (P Q : Aged → Type 0) (xs : List Aged) → ((a : Aged) → P a → Q a) → AllByRecursion P xs → AllByRecursion Q xs
all_weaker P Q [] f t = tt
all_weaker P Q (x ∷ xs) f t = (f x t.0, all_weaker P Q xs f t.1)

module _ (kinds ppm now drawn held : ℕ) (ls : List (List (Ptr × Entry))) (K : Kept kinds ppm now drawn held ls) where
  pub Kept-later : (m : ℕ) → now ≤ m → m < 2 ^ 60 → Kept kinds ppm m drawn held ls
  Kept-later m h l = record {
    same = K.same;
    few = K.few;
    state = K.state;
    latest = l;
    ages = K.ages;
    count = K.count;
    counted = K.counted;
    rises = K.rises;
    bounded = all_weaker (λ (a : Aged). (a.0 < drawn) × (a.1.at ≤ now)) (λ (a : Aged). (a.0 < drawn) × (a.1.at ≤ m)) (all_from 0 ls) (λ a t. (t.0, let b = t.1 in omega (arith, b, h))) K.bounded;
    apart = K.apart;
    named = K.named;
  }

  pub younger : AllByRecursion (λ (a : Aged). a.0 < drawn) (all_from 0 ls)
  younger = all_weaker (λ (a : Aged). (a.0 < drawn) × (a.1.at ≤ now)) (λ (a : Aged). a.0 < drawn) (all_from 0 ls) (λ a t. t.0) K.bounded

  pub Kept-armed : (j : ℕ) (p : Ptr) (id m : ℕ) → j < length ls → now ≤ m → m < 2 ^ 60 → drawn + 1 < 2 ^ 63 → has_node p ls ≡ false → Kept kinds ppm m (drawn + 1) (held + 1) (push_at j (p, record { id = id; at = m; age = drawn }) ls)
  Kept-armed j p id m low le lt more fresh =
      let n : Ptr × Entry = (p, record { id = id; at = m; age = drawn }) in
      let a = push-added 0 j j n ls (omega arith) low in let x = aged j n in
      let B : Aged → Type 0 = λ a. (a.0 < drawn + 1) × (a.1.at ≤ m) in
      let wide = subst (AllByRecursion B) a.was (all_weaker (λ (a : Aged). (a.0 < drawn) × (a.1.at ≤ now)) B (all_from 0 ls) (λ a t. (let b = t.0 in omega (arith, b), let b = t.1 in omega (arith, b, le))) K.bounded) in
      record {
        same = length-push_at j n ls ∙ K.same;
        few = K.few;
        state = K.state;
        latest = lt;
        ages = more;
        count = let o = ap length a.was ∙ length-append a.before a.behind in let q = ap length a.is ∙ length-append a.before (x ∷ a.behind) in let c = K.count in omega (arith, o, q, c);
        counted = let c = K.counted in omega (arith, c);
        rises = rises-push 0 j n ls K.rises (all_weaker (λ (a : Aged). (a.0 < drawn) × (a.1.at ≤ now)) (λ (a : Aged). (a.1.at ≤ m) × (a.0 < drawn)) (all_from 0 ls) (λ a t. (let b = t.1 in omega (arith, b, le), t.0)) K.bounded);
        bounded = subst (AllByRecursion B) (sym a.is) (all_both B a.before (x ∷ a.behind) (all_left B a.before a.behind wide) ((omega arith, omega arith), all_right B a.before a.behind wide));
        apart = subst (λ l. IsDistinct nat_eq (map age_of l)) (sym a.is)
            (distinct_with age_of nat_eq eqb_flips a.before x a.behind
            (subst (AllByRecursion (λ (y : Aged). nat_eq drawn y.0 ≡ false)) a.was (all_weaker (λ (a : Aged). a.0 < drawn) (λ (y : Aged). nat_eq drawn y.0 ≡ false) (all_from 0 ls) (λ y t. differ drawn y.0 t) younger))
            (subst (λ l. IsDistinct nat_eq (map age_of l)) a.was K.apart));
        named = subst (λ l. IsDistinct same_ptr (map name_of l)) (sym a.is)
            (distinct_with name_of same_ptr same_ptr_symm a.before x a.behind
            (subst (AllByRecursion (λ (y : Aged). same_ptr p y.1.timer ≡ false)) a.was (absent p (all_from 0 ls) (has-all 0 p ls ∙ fresh)))
            (subst (λ l. IsDistinct same_ptr (map name_of l)) a.was K.named));
      }

  pub held_some : (p : Ptr) → has_node p ls ≡ true → 0 < held
  held_some p h = let g = pull-gone 0 p ls h in let q = ap length g.at.is ∙ length-append g.at.before (g.timer ∷ g.at.behind) in let c = K.count in omega (arith, q, c)

  early : (k : ℕ) (o : Option (Ptr × Entry)) → front_of k ls ≡ o → MatchOption o ⊤ (λ n. n.1.at < 2 ^ 60)
  early k None e = tt
  early k (Some n) e =
      let on = front-among 0 k k n ls (omega arith) e in
      let B : Aged → Type 0 = λ a. (a.0 < drawn) × (a.1.at ≤ now) in
      let t = (all_right B on.0 (aged k n ∷ on.1) (subst (AllByRecursion B) on.2 K.bounded)).0.1 in let l = K.latest in omega (arith, t, l)

  -- each front was armed early enough
  pub fronts-early : (k : ℕ) → MatchOption (front_of k ls) ⊤ (λ n. n.1.at < 2 ^ 60)
  fronts-early k = early k (front_of k ls) refl

  pub Kept-pulled : (p : Ptr) → has_node p ls ≡ true → Kept kinds ppm now drawn (held - 1) (pull_from p ls)
  Kept-pulled p h =
      let g = pull-gone 0 p ls h in
      let B : Aged → Type 0 = λ a. (a.0 < drawn) × (a.1.at ≤ now) in
      let wide = subst (AllByRecursion B) g.at.is K.bounded in
      record {
        same = length-pull_from p ls ∙ K.same;
        few = K.few;
        state = K.state;
        latest = K.latest;
        ages = K.ages;
        count = let q = ap length g.at.is ∙ length-append g.at.before (g.timer ∷ g.at.behind) in let o = ap length g.at.was ∙ length-append g.at.before g.at.behind in let c = K.count in omega (arith, o, q, c);
        counted = let c = K.counted in omega (arith, c);
        rises = rises-pull p ls K.rises;
        bounded = subst (AllByRecursion B) (sym g.at.was) (all_both B g.at.before g.at.behind (all_left B g.at.before (g.timer ∷ g.at.behind) wide) (all_right B g.at.before (g.timer ∷ g.at.behind) wide).1);
        apart = subst (λ l. IsDistinct nat_eq (map age_of l)) (sym g.at.was) (distinct_without age_of nat_eq g.at.before g.timer g.at.behind (subst (λ l. IsDistinct nat_eq (map age_of l)) g.at.is K.apart));
        named = subst (λ l. IsDistinct same_ptr (map name_of l)) (sym g.at.was) (distinct_without name_of same_ptr g.at.before g.timer g.at.behind (subst (λ l. IsDistinct same_ptr (map name_of l)) g.at.is K.named));
      }

length-map : (xs : List Aged) → length (map (λ (a : Aged). a.1) xs) ≡ length xs
length-map [] = refl
length-map (x ∷ xs) = let on = length-map xs in omega (arith, on)

pub length-armed : (ls : List (List (Ptr × Entry))) → length (armed_of ls) ≡ length (all_from 0 ls)
length-armed ls = length-map (in_order age_of (all_from 0 ls)) ∙ length-in_order age_of (all_from 0 ls)

-- no timers yet
all-empty : (k n : ℕ) → all_from k (replicate n []) ≡ []
unfolding all_from
all-empty k zero = refl
all-empty k (suc n) = all-empty (k + 1) n

rises-empty : (n : ℕ) → AllByRecursion Rises (replicate n [])
unfolding Rises
rises-empty zero = tt
rises-empty (suc n) = (tt, rises-empty n)

pub armed-empty : (n : ℕ) → armed_of (replicate n []) ≡ []
unfolding in_order
armed-empty n = ap (λ r. map (λ (a : Aged). a.1) (in_order age_of r)) (all-empty 0 n)

pub Kept-empty : (kinds n : ℕ) → n ≡ kinds → kinds < 2 ^ 32 → Kept kinds 0 0 0 0 (replicate n [])
unfolding IsDistinct
Kept-empty kinds n e few = record {
  same = length-replicate n [] ∙ e;
  few = few;
  state = omega arith;
  latest = lit< tt;
  ages = lit< tt;
  count = sym (ap length (all-empty 0 n));
  counted = omega arith;
  rises = rises-empty n;
  bounded = subst (AllByRecursion (λ (a : Aged). (a.0 < 0) × (a.1.at ≤ 0))) (sym (all-empty 0 n)) tt;
  apart = subst (λ l. IsDistinct nat_eq (map age_of l)) (sym (all-empty 0 n)) tt;
  named = subst (λ l. IsDistinct same_ptr (map name_of l)) (sym (all-empty 0 n)) tt;
}
