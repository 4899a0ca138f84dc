-- How the tie between the map and the lists is kept.
use Rattle.std.proofs.Common.{◌≡◌, ℕ, zero, suc, ◌+◌, ◌-◌, ◌<◌, ◌≤◌, true, false, cond, List, [], ◌∷◌, ◌++◌, map, length, replicate, refl, sym, ap, ◌∙◌, subst, arith}
use Rattle.std.specs.Prelude.{nat_eq, Option, None, Some}
use Rattle.std.specs.Map.{lookup}
use Rattle.std.specs.List.{AllByRecursion, IsDistinct}
use Rattle.std.specs.BTreeMap.{is_at}
use Rattle.std.specs.Ordering.{nat_cmp}
use Rattle.std.specs.Cmp.{unsigned_tied}
use Rattle.std.proofs.lemmas.Bool.{eq-eqb, eqb-true}
use Rattle.std.proofs.lemmas.Map.{lookup-none}
use denote.RawPtr.{Ptr}
use Rattle.link_lists.specs.Places.{same_ptr}
use Rattle.link_lists.specs.Lists.{has_node, pull_from, push_at, node_value}
use Rattle.link_lists.proofs.Memory.{either, same_ptr_refl}
use Rattle.link_lists.proofs.Edges.{same_ptr_symm}
use Rattle.link_lists.proofs.Splits.{all_left, all_right, all_both, distinct_without, distinct_differs, distinct_with, alike_cut}
use Rattle.overload_core.specs.declared.classes.Standing.{Standing}
use Rattle.link_lists.proofs.Facts.{length-pull_from, length-push_at}
use Rattle.overload_core.specs.Accounts.{appended, entered, without, class_in}
use Rattle.overload_core.specs.Tied.{Placed, all_placed, classes_of, Tied, Kept}
use Rattle.overload_core.proofs.Placing.{exchange_of, name_of, eqb_flips, push-added, pull-gone, present, found, lookup-added, none-found, class-high, absent}
use Rattle.overload_core.proofs.Viewing.{Names, all-kept, classes-pull, classes-push, entered-is, class_at, class-found}

abbrev Nodes : Type 0
Nodes = List (Ptr × ℕ)

module _ (e : ℕ) (s : Standing) where
  alike : (xs : List Placed) → AllByRecursion (λ (a : Placed). nat_eq a.0 e ≡ false) xs → AllByRecursion (λ (a : Placed). same_ptr s.node a.1.node ≡ false) xs → AllByRecursion (Names s.node e) xs
  alike [] h g = tt
  alike (x ∷ xs) h g = (g.0 ∙ sym h.0, alike xs h.1 g.1)

  flipped : (xs : List Placed) → AllByRecursion (λ (a : Placed). nat_eq e a.0 ≡ false) xs → AllByRecursion (λ (a : Placed). nat_eq a.0 e ≡ false) xs
  flipped [] h = tt
  flipped (x ∷ xs) h = (eqb_flips x.0 e ∙ h.0, flipped xs h.1)

  module _ (us vs : List Placed) (d : IsDistinct nat_eq (map exchange_of (us ++ (e, s) ∷ vs))) where
    -- no other has the number e
    others : AllByRecursion (λ (a : Placed). nat_eq a.0 e ≡ false) (us ++ vs)
    others = flipped (us ++ vs) (distinct_differs exchange_of nat_eq eqb_flips us (e, s) vs d)

    -- the exchange's node is its own, and no other's
    named-one : IsDistinct same_ptr (map name_of (us ++ (e, s) ∷ vs)) → AllByRecursion (Names s.node e) (us ++ (e, s) ∷ vs)
    named-one n =
        let P : Placed → Type 0 = λ a. nat_eq a.0 e ≡ false in let Q : Placed → Type 0 = λ a. same_ptr s.node a.1.node ≡ false in
        let q = distinct_differs name_of same_ptr same_ptr_symm us (e, s) vs n in
        all_both (Names s.node e) us ((e, s) ∷ vs) (alike us (all_left P us vs others) (all_left Q us vs q)) (same_ptr_refl s.node ∙ sym (eq-eqb e e refl), alike vs (all_right P us vs others) (all_right Q us vs q))

    found-without : (q : ℕ) → cond (nat_eq e q) None (lookup (λ x. nat_eq x q) (us ++ (e, s) ∷ vs)) ≡ lookup (λ x. nat_eq x q) (us ++ vs)
    found-without q = either (nat_eq e q)
        (λ t. ap (λ b. cond b None (lookup (λ x. nat_eq x q) (us ++ (e, s) ∷ vs))) t ∙ sym (lookup-none (λ x. nat_eq x q) (us ++ vs) (subst (λ r. AllByRecursion (λ (a : Placed). nat_eq a.0 r ≡ false) (us ++ vs)) (eqb-true e q t) others)))
        (λ f. ap (λ b. cond b None (lookup (λ x. nat_eq x q) (us ++ (e, s) ∷ vs))) f
        ∙ lookup-added (e, s) us vs q (all_left (λ (a : Placed). nat_eq e a.0 ≡ false) us vs (distinct_differs exchange_of nat_eq eqb_flips us (e, s) vs d))
        ∙ ap (λ b. cond b (Some s) (lookup (λ x. nat_eq x q) (us ++ vs))) f)

turned : (e : ℕ) (xs : List Placed) → AllByRecursion (λ (a : Placed). nat_eq a.0 e ≡ false) xs → AllByRecursion (λ (a : Placed). nat_eq e a.0 ≡ false) xs
turned e [] h = tt
turned e (x ∷ xs) h = (eqb_flips e x.0 ∙ h.0, turned e xs h.1)

-- what a change says of each exchange
abbrev pub Sets : (ℕ → Option Standing) → (ℕ → Option Standing) → ℕ → Option Standing → Type 0
Sets find new e w = (q : ℕ) → new q ≡ cond (nat_eq e q) w (find q)

-- the same, as the map says it
pub sets : (find new : ℕ → Option Standing) (e : ℕ) (w : Option Standing) → ((q : ℕ) → new q ≡ cond (is_at (nat_cmp e) q) w (find q)) → Sets find new e w
sets find new e w h q = h q ∙ ap (λ b. cond b w (find q)) (unsigned_tied e q)

-- the exchange e leaves with its node
pub record Leaves (e : ℕ) (s : Standing) (find : ℕ → Option Standing) (ls : List Nodes) : Type 0 where
  pub there : has_node s.node ls ≡ true
  pub value : node_value s.node ls ≡ Some e
  pub left : classes_of (pull_from s.node ls) ≡ without e (classes_of ls)
  pub off : AllByRecursion (λ (a : Placed). same_ptr s.node a.1.node ≡ false) (all_placed 1 (pull_from s.node ls))
  pub tied : (new : ℕ → Option Standing) → Sets find new e None → Tied new (pull_from s.node ls)

module _ (find : ℕ → Option Standing) (ls : List Nodes) (T : Tied find ls) where
  pub class-is : (e : ℕ) → class_in e (classes_of ls) ≡ class_at (find e)
  class-is e = class-found 1 e ls ∙ sym (ap class_at (T.same e))

  high : (e : ℕ) (s : Standing) → find e ≡ Some s → 1 ≤ s.class
  high e s h = let F = all_placed 1 ls in let cut = found e s F (sym (T.same e) ∙ h) in
      (all_right (λ (a : Placed). 1 ≤ a.1.class) cut.0 ((e, s) ∷ cut.1) (subst (AllByRecursion (λ (a : Placed). 1 ≤ a.1.class)) cut.2 (class-high 1 1 ls (omega arith)))).0

  no_class : (e : ℕ) (o : Option Standing) → find e ≡ o → class_at o ≡ 0 → o ≡ None
  no_class e None h z = refl
  no_class e (Some s) h z = let l = high e s h in absurd (omega (arith, l, z))

  -- an exchange of no class is found nowhere
  pub nowhere : (e : ℕ) → class_in e (classes_of ls) ≡ 0 → find e ≡ None
  nowhere e h = no_class e (find e) refl (sym (class-is e) ∙ h)

  pub without-none : (e : ℕ) → find e ≡ None → without e (classes_of ls) ≡ classes_of ls
  without-none e h = all-kept 1 e ls (none-found e (all_placed 1 ls) (sym (T.same e) ∙ h))

  pub leaves : (e : ℕ) (s : Standing) → find e ≡ Some s → Leaves e s find ls
  leaves e s h =
      let F = all_placed 1 ls in
      let cut = found e s F (sym (T.same e) ∙ h) in
      let there = present 1 ls cut.0 (e, s) cut.1 cut.2 in
      let g = pull-gone 1 s.node ls there in
      let us = g.at.before in let vs = g.at.behind in
      let one = (alike_cut name_of same_ptr same_ptr_symm us g.one vs cut.0 (e, s) cut.1 (subst (λ l. IsDistinct same_ptr (map name_of l)) g.at.is T.named) (sym g.at.is ∙ cut.2)
      (ap (λ q. same_ptr q s.node) g.name ∙ same_ptr_refl s.node)).1 in
      let is : F ≡ us ++ (e, s) ∷ vs = g.at.is ∙ ap (λ a. us ++ a ∷ vs) one in
      let apart = subst (λ l. IsDistinct nat_eq (map exchange_of l)) is T.apart in
      let named = subst (λ l. IsDistinct same_ptr (map name_of l)) is T.named in
      record {
        there = there;
        value = g.value ∙ ap (λ (a : Placed). Some a.0) one;
        left = classes-pull s.node e 1 ls (subst (AllByRecursion (Names s.node e)) (sym is) (named-one e s us vs apart named)) T.named;
        off = subst (AllByRecursion (λ (a : Placed). same_ptr s.node a.1.node ≡ false)) (sym g.at.was) (distinct_differs name_of same_ptr same_ptr_symm us (e, s) vs named);
        tied = λ new f. record {
          same = λ q. f q ∙ ap (cond (nat_eq e q) None) (T.same q ∙ ap (lookup (λ x. nat_eq x q)) is) ∙ found-without e s us vs apart q ∙ sym (ap (lookup (λ x. nat_eq x q)) g.at.was);
          apart = subst (λ l. IsDistinct nat_eq (map exchange_of l)) (sym g.at.was) (distinct_without exchange_of nat_eq us (e, s) vs apart);
          named = subst (λ l. IsDistinct same_ptr (map name_of l)) (sym g.at.was) (distinct_without name_of same_ptr us (e, s) vs named);
        };
      }

  -- the exchange e comes last in the k-th class, with the node p
  module _ (e : ℕ) (p : Ptr) (k : ℕ) (none : find e ≡ None) (off : AllByRecursion (λ (a : Placed). same_ptr p a.1.node ≡ false) (all_placed 1 ls)) (low : 0 < k) (high : k ≤ length ls) where
    pub enters : (new : ℕ → Option Standing) → Sets find new e (Some (record { node = p; class = k })) → Tied new (push_at (k - 1) (p, e) ls)
    enters new f =
        let F = all_placed 1 ls in let s : Standing = record { node = p; class = k } in
        let a = push-added 1 (k - 1) k (p, e) ls (omega (arith, low)) (omega (arith, low, high)) in
        let us = a.before in let vs = a.behind in
        let away = subst (AllByRecursion (λ (b : Placed). nat_eq b.0 e ≡ false)) a.was (none-found e F (sym (T.same e) ∙ none)) in
        let away' = turned e (us ++ vs) away in
        record {
          same = λ q. f q ∙ ap (cond (nat_eq e q) (Some s)) (T.same q ∙ ap (lookup (λ x. nat_eq x q)) a.was) ∙ sym (lookup-added (e, s) us vs q (all_left (λ (b : Placed). nat_eq e b.0 ≡ false) us vs away')) ∙ sym (ap (lookup (λ x. nat_eq x q)) a.is);
          apart = subst (λ l. IsDistinct nat_eq (map exchange_of l)) (sym a.is) (distinct_with exchange_of nat_eq eqb_flips us (e, s) vs away' (subst (λ l. IsDistinct nat_eq (map exchange_of l)) a.was T.apart));
          named = subst (λ l. IsDistinct same_ptr (map name_of l)) (sym a.is) (distinct_with name_of same_ptr same_ptr_symm us (e, s) vs (subst (AllByRecursion (λ (b : Placed). same_ptr p b.1.node ≡ false)) a.was off) (subst (λ l. IsDistinct same_ptr (map name_of l)) a.was T.named));
        }

-- the exchange e comes into the k-th class, with the new node p
module _ (start : ℕ) (find : ℕ → Option Standing) (ls : List Nodes) (K : Kept start find ls) (e : ℕ) (p : Ptr) (k : ℕ) (none : class_in e (classes_of ls) ≡ 0) (fresh : has_node p ls ≡ false) (low : 0 < k) (high : k ≤ 8) where
  pub kept-entered : (new : ℕ → Option Standing) → Sets find new e (Some (record { node = p; class = k })) → (after : List Nodes) → after ≡ push_at (k - 1) (p, e) ls → Kept start new after
  kept-entered new f after is =
      let eight = K.eight in
      subst (Kept start new) (sym is) (record {
        low = K.low;
        eight = length-push_at (k - 1) (p, e) ls ∙ eight;
        tied = enters find ls K.tied e p k (nowhere find ls K.tied e none) (absent 1 p ls fresh) low (omega (arith, high, eight)) new f;
      })

pub classes-enter : (k e : ℕ) (p : Ptr) (ls : List Nodes) → 0 < k → classes_of (push_at (k - 1) (p, e) ls) ≡ entered k e (classes_of ls)
classes-enter k e p ls low = classes-push (k - 1) (p, e) ls ∙ sym (entered-is k e (classes_of ls) low)

-- the exchange e leaves, and comes last in the k-th class with the same node
module _ (find : ℕ → Option Standing) (ls : List Nodes) (T : Tied find ls) (e : ℕ) (s : Standing) (h : find e ≡ Some s) (k : ℕ) (low : 0 < k) (high : k ≤ length ls) where
  pub shifts : (new : ℕ → Option Standing) → Sets find new e (Some (record { node = s.node; class = k })) → Tied new (push_at (k - 1) (s.node, e) (pull_from s.node ls))
  shifts new f =
      let L = leaves find ls T e s h in
      let mid : ℕ → Option Standing = λ q. cond (nat_eq e q) None (find q) in
      let n = length-pull_from s.node ls in
      let w : Option Standing = Some (record { node = s.node; class = k }) in
      enters mid (pull_from s.node ls) (L.tied mid (λ q. refl)) e s.node k (ap (λ b. cond b None (find e)) (eq-eqb e e refl)) L.off low (omega (arith, n, high)) new
      (λ q. f q ∙ elim (nat_eq e q) as (λ b. cond b w (find q) ≡ cond b w (cond b None (find q))) [ true ↦ refl | false ↦ refl ])

  pub classes-shift : classes_of (push_at (k - 1) (s.node, e) (pull_from s.node ls)) ≡ entered k e (without e (classes_of ls))
  classes-shift = classes-push (k - 1) (s.node, e) (pull_from s.node ls) ∙ ap (appended (k - 1) e) (leaves find ls T e s h).left ∙ sym (entered-is k e (without e (classes_of ls)) low)

-- no exchanges yet
all-empty : (k n : ℕ) → all_placed k (replicate n []) ≡ []
unfolding all_placed
all-empty k zero = refl
all-empty k (suc n) = all-empty (k + 1) n

pub tied-empty : (find : ℕ → Option Standing) (n : ℕ) → ((q : ℕ) → find q ≡ None) → Tied find (replicate n [])
unfolding IsDistinct
tied-empty find n h = record {
  same = λ q. h q ∙ sym (ap (lookup (λ x. nat_eq x q)) (all-empty 1 n));
  apart = subst (λ l. IsDistinct nat_eq (map exchange_of l)) (sym (all-empty 1 n)) tt;
  named = subst (λ l. IsDistinct same_ptr (map name_of l)) (sym (all-empty 1 n)) tt;
}
