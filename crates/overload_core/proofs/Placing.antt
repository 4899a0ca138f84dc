-- How the exchanges of the lists change with the lists.
use Rattle.std.proofs.Common.{◌≡◌, ℕ, zero, suc, ◌+◌, ◌<◌, ◌≤◌, Bool, true, false, cond, List, [], ◌∷◌, ◌++◌, map, length, refl, sym, ap, ◌∙◌, append_assoc, true≢false, arith}
use Rattle.std.specs.Prelude.{◌||◌, nat_eq, Option, None, Some}
use Rattle.std.specs.Map.{lookup}
use Rattle.std.specs.List.{AllByRecursion, list_any}
use Rattle.std.proofs.lemmas.List.{map-append}
use Rattle.std.proofs.lemmas.Bool.{eqb-true, eq-eqb}
use denote.RawPtr.{Ptr}
use Rattle.link_lists.specs.Places.{same_ptr}
use Rattle.link_lists.specs.Lists.{has, pull, value_in, has_node, pull_from, push_at, node_value}
use Rattle.link_lists.proofs.Memory.{either, same_ptr_eq, same_ptr_refl}
use Rattle.link_lists.proofs.Splits.{all_both}
use Rattle.overload_core.specs.declared.classes.Standing.{Standing}
use Rattle.overload_core.specs.Tied.{Placed, placed, all_placed}

abbrev Nodes : Type 0
Nodes = List (Ptr × ℕ)

abbrev pub exchange_of : Placed → ℕ
exchange_of a = a.0

abbrev pub name_of : Placed → Ptr
name_of a = a.1.node

pub eqb_flips : (a b : ℕ) → nat_eq a b ≡ nat_eq b a
eqb_flips a b = either (nat_eq a b)
    (λ t. t ∙ sym (eq-eqb b a (sym (eqb-true a b t))))
    (λ f. f ∙ either (nat_eq b a) (λ t. absurd (true≢false (sym (eq-eqb a b (sym (eqb-true b a t))) ∙ f))) (λ g. sym g))

-- where one more stands among the others
pub record Added (a : Placed) (old new : List Placed) : Type 0 where
  pub before : List Placed
  pub behind : List Placed
  pub was : old ≡ before ++ behind
  pub is : new ≡ before ++ a ∷ behind

pub push-added : (k j m : ℕ) (n : Ptr × ℕ) (ls : List Nodes) → m ≡ k + j → j < length ls → Added (placed m n) (all_placed k ls) (all_placed k (push_at j n ls))
unfolding all_placed push_at
push-added k j m n [] e h = absurd (omega arith)
push-added k zero m n (l ∷ ls) e h = record {
  before = map (placed k) l;
  behind = all_placed (k + 1) ls;
  was = refl;
  is = ap (λ r. r ++ all_placed (k + 1) ls) (map-append (placed k) l (n ∷ [])) ∙ append_assoc (map (placed k) l) (placed k n ∷ []) (all_placed (k + 1) ls)
      ∙ ap (λ i. map (placed k) l ++ placed i n ∷ all_placed (k + 1) ls) (let q : k ≡ m = omega arith in q);
}
push-added k (suc j) m n (l ∷ ls) e h =
    let on = push-added (k + 1) j m n ls (omega arith) (omega arith) in let mine = map (placed k) l in
    record {
      before = mine ++ on.before;
      behind = on.behind;
      was = ap (λ r. mine ++ r) on.was ∙ sym (append_assoc mine on.before on.behind);
      is = ap (λ r. mine ++ r) on.is ∙ sym (append_assoc mine on.before (placed m n ∷ on.behind));
    }

-- the one that leaves with the node p, whose value is v
pub record Gone (p : Ptr) (v : Option ℕ) (old new : List Placed) : Type 0 where
  pub one : Placed
  pub name : one.1.node ≡ p
  pub value : v ≡ Some one.0
  pub at : Added one new old

list-gone : (k : ℕ) (p : Ptr) (l : Nodes) → has p l ≡ true → Gone p (value_in p l) (map (placed k) l) (map (placed k) (pull p l))
unfolding has pull value_in
list-gone k p [] h = cc
list-gone k p (n ∷ l) h = either (same_ptr p n.0)
    (λ t. record {
      one = placed k n;
      name = sym (same_ptr_eq p n.0 t);
      value = ap (λ c. cond c (Some n.1) (value_in p l)) t;
      at = record { before = []; behind = map (placed k) l; was = ap (λ c. map (placed k) (cond c l (n ∷ pull p l))) t; is = refl };
    })
    (λ f. let on = list-gone k p l (sym (ap (λ c. cond c true (has p l)) f) ∙ h) in record {
      one = on.one;
      name = on.name;
      value = ap (λ c. cond c (Some n.1) (value_in p l)) f ∙ on.value;
      at = record {
        before = placed k n ∷ on.at.before;
        behind = on.at.behind;
        was = ap (λ c. map (placed k) (cond c l (n ∷ pull p l))) f ∙ ap (λ r. placed k n ∷ r) on.at.was;
        is = ap (λ r. placed k n ∷ r) on.at.is;
      };
    })

pub pull-gone : (k : ℕ) (p : Ptr) (ls : List Nodes) → has_node p ls ≡ true → Gone p (node_value p ls) (all_placed k ls) (all_placed k (pull_from p ls))
unfolding has_node pull_from node_value all_placed
pull-gone k p [] h = cc
pull-gone k p (l ∷ ls) h = let rest = all_placed (k + 1) ls in let mine = map (placed k) l in either (has p l)
    (λ t. let on = list-gone k p l t in record {
      one = on.one;
      name = on.name;
      value = ap (λ c. cond c (value_in p l) (node_value p ls)) t ∙ on.value;
      at = record {
        before = on.at.before;
        behind = on.at.behind ++ rest;
        was = ap (λ c. all_placed k (cond c (pull p l ∷ ls) (l ∷ pull_from p ls))) t ∙ ap (λ r. r ++ rest) on.at.was ∙ append_assoc on.at.before on.at.behind rest;
        is = ap (λ r. r ++ rest) on.at.is ∙ append_assoc on.at.before (on.one ∷ on.at.behind) rest;
      };
    })
    (λ f. let on = pull-gone (k + 1) p ls (sym (ap (λ c. cond c true (has_node p ls)) f) ∙ h) in record {
      one = on.one;
      name = on.name;
      value = ap (λ c. cond c (value_in p l) (node_value p ls)) f ∙ on.value;
      at = record {
        before = mine ++ on.at.before;
        behind = on.at.behind;
        was = ap (λ c. all_placed k (cond c (pull p l ∷ ls) (l ∷ pull_from p ls))) f ∙ ap (λ r. mine ++ r) on.at.was ∙ sym (append_assoc mine on.at.before on.at.behind);
        is = ap (λ r. mine ++ r) on.at.is ∙ sym (append_assoc mine on.at.before (on.one ∷ on.at.behind));
      };
    })

-- the names of those placed are the nodes of the lists
named-append : (p : Ptr) (xs ys : List Placed) → list_any (λ a. same_ptr p a.1.node) (xs ++ ys) ≡ (list_any (λ a. same_ptr p a.1.node) xs || list_any (λ a. same_ptr p a.1.node) ys)
named-append p [] ys = refl
named-append p (x ∷ xs) ys = ap (λ b. same_ptr p x.1.node || b) (named-append p xs ys)
    ∙ elim (same_ptr p x.1.node) as (λ b. (b || (list_any (λ a. same_ptr p a.1.node) xs || list_any (λ a. same_ptr p a.1.node) ys)) ≡ ((b || list_any (λ a. same_ptr p a.1.node) xs) || list_any (λ a. same_ptr p a.1.node) ys)) [ true ↦ refl | false ↦ refl ]

pub named-list : (k : ℕ) (p : Ptr) (l : Nodes) → list_any (λ a. same_ptr p a.1.node) (map (placed k) l) ≡ has p l
unfolding has
named-list k p [] = refl
named-list k p (n ∷ l) = ap (λ b. same_ptr p n.0 || b) (named-list k p l) ∙ elim (same_ptr p n.0) as (λ b. (b || has p l) ≡ cond b true (has p l)) [ true ↦ refl | false ↦ refl ]

named-all : (k : ℕ) (p : Ptr) (ls : List Nodes) → list_any (λ a. same_ptr p a.1.node) (all_placed k ls) ≡ has_node p ls
unfolding has_node all_placed
named-all k p [] = refl
named-all k p (l ∷ ls) = named-append p (map (placed k) l) (all_placed (k + 1) ls) ∙ (λ i. named-list k p l i || named-all (k + 1) p ls i)
    ∙ elim (has p l) as (λ b. (b || has_node p ls) ≡ cond b true (has_node p ls)) [ true ↦ refl | false ↦ refl ]

pub none-named : (p : Ptr) (xs : List Placed) → list_any (λ a. same_ptr p a.1.node) xs ≡ false → AllByRecursion (λ (a : Placed). same_ptr p a.1.node ≡ false) xs
none-named p [] h = tt
none-named p (x ∷ xs) h = either (same_ptr p x.1.node)
    (λ t. absurd (true≢false (sym (ap (λ b. b || list_any (λ a. same_ptr p a.1.node) xs) t) ∙ h)))
    (λ f. (f, none-named p xs (sym (ap (λ b. b || list_any (λ a. same_ptr p a.1.node) xs) f) ∙ h)))

-- a node that is in no list is nobody's
pub absent : (k : ℕ) (p : Ptr) (ls : List Nodes) → has_node p ls ≡ false → AllByRecursion (λ (a : Placed). same_ptr p a.1.node ≡ false) (all_placed k ls)
absent k p ls h = none-named p (all_placed k ls) (named-all k p ls ∙ h)

or_true : (a : Bool) → (a || true) ≡ true
or_true true = refl
or_true false = refl

-- the node of one that is placed is in the lists
pub present : (k : ℕ) (ls : List Nodes) (xs : List Placed) (a : Placed) (ys : List Placed) → all_placed k ls ≡ xs ++ a ∷ ys → has_node a.1.node ls ≡ true
present k ls xs a ys e = let p = a.1.node in
    sym (named-all k p ls) ∙ ap (list_any (λ (b : Placed). same_ptr p b.1.node)) e ∙ named-append p xs (a ∷ ys)
    ∙ ap (λ b. list_any (λ (c : Placed). same_ptr p c.1.node) xs || (b || list_any (λ (c : Placed). same_ptr p c.1.node) ys)) (same_ptr_refl p) ∙ or_true (list_any (λ (c : Placed). same_ptr p c.1.node) xs)

-- what a look-up finds
pub found : (e : ℕ) (s : Standing) (xs : List Placed) → lookup (λ x. nat_eq x e) xs ≡ Some s → (us : List Placed) × (vs : List Placed) × (xs ≡ us ++ (e, s) ∷ vs)
found e s [] h = cc
found e s (x ∷ xs) h = either (nat_eq x.0 e)
    (λ t. let same : Some x.1 ≡ Some s = sym (ap (λ b. cond b (Some x.1) (lookup (λ y. nat_eq y e) xs)) t) ∙ h in
    let k = eqb-true x.0 e t in let w = ap (λ (o : Option Standing). elim o as (λ _. Standing) [ None ↦ s | Some z ↦ z ]) same in
    ([], xs, λ i. (k i, w i) ∷ xs))
    (λ f. let on = found e s xs (sym (ap (λ b. cond b (Some x.1) (lookup (λ y. nat_eq y e) xs)) f) ∙ h) in (x ∷ on.0, on.1, ap (λ l. x ∷ l) on.2))

pub lookup-added : (a : Placed) (us vs : List Placed) (e : ℕ) → AllByRecursion (λ (b : Placed). nat_eq a.0 b.0 ≡ false) us → lookup (λ x. nat_eq x e) (us ++ a ∷ vs) ≡ cond (nat_eq a.0 e) (Some a.1) (lookup (λ x. nat_eq x e) (us ++ vs))
lookup-added a [] vs e d = refl
lookup-added a (u ∷ us) vs e d = let on = lookup-added a us vs e d.1 in
    either (nat_eq u.0 e)
    (λ t. let away : nat_eq a.0 e ≡ false = ap (nat_eq a.0) (sym (eqb-true u.0 e t)) ∙ d.0 in
    ap (λ b. cond b (Some u.1) (lookup (λ x. nat_eq x e) (us ++ a ∷ vs))) t ∙ sym (ap (λ b. cond b (Some a.1) (lookup (λ x. nat_eq x e) (u ∷ (us ++ vs)))) away ∙ ap (λ b. cond b (Some u.1) (lookup (λ x. nat_eq x e) (us ++ vs))) t))
    (λ f. ap (λ b. cond b (Some u.1) (lookup (λ x. nat_eq x e) (us ++ a ∷ vs))) f ∙ on ∙ sym (ap (λ b. cond (nat_eq a.0 e) (Some a.1) (cond b (Some u.1) (lookup (λ x. nat_eq x e) (us ++ vs)))) f))

pub none-found : (e : ℕ) (xs : List Placed) → lookup (λ x. nat_eq x e) xs ≡ None → AllByRecursion (λ (a : Placed). nat_eq a.0 e ≡ false) xs
none-found e [] h = tt
none-found e (x ∷ xs) h = either (nat_eq x.0 e)
    (λ t. let clash : Some x.1 ≡ None = sym (ap (λ b. cond b (Some x.1) (lookup (λ y. nat_eq y e) xs)) t) ∙ h in absurd (cc))
    (λ f. (f, none-found e xs (sym (ap (λ b. cond b (Some x.1) (lookup (λ y. nat_eq y e) xs)) f) ∙ h)))

class-here : (k m : ℕ) (l : Nodes) → k ≤ m → AllByRecursion (λ (a : Placed). k ≤ a.1.class) (map (placed m) l)
class-here k m [] h = tt
class-here k m (n ∷ l) h = (h, class-here k m l h)

-- each stands in a class from k on
pub class-high : (k m : ℕ) (ls : List Nodes) → k ≤ m → AllByRecursion (λ (a : Placed). k ≤ a.1.class) (all_placed m ls)
unfolding all_placed
class-high k m [] h = tt
class-high k m (l ∷ ls) h = all_both (λ (a : Placed). k ≤ a.1.class) (map (placed m) l) (all_placed (m + 1) ls) (class-here k m l h) (class-high k (m + 1) ls (omega (arith, h)))
