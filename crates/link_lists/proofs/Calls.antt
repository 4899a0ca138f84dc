-- What the calls on the rings tell of the lists.
use Rattle.std.proofs.Common.{◌≡◌, ℕ, ◌+◌, zero, suc, true, false, cond, List, [], ◌∷◌, ◌++◌, refl, sym, ap, ◌∙◌, subst, true≢false}
use Rattle.std.specs.Prelude.{Option, None, Some, MatchOption}
use Rattle.std.specs.Option.{option_map}
use denote.RawPtr.{Ptr}
use Rattle.link_lists.specs.Places.{same_ptr}
use Rattle.link_lists.specs.Lists.{contains_id, without_id, has, value_in, has_node, pull_from, head_of, node_value, push_at, front_of, NodeLists}
use Rattle.link_lists.specs.Seen.{IsLone, stored}
use Rattle.link_lists.proofs.Memory.{either, same_ptr_refl}
use Rattle.link_lists.proofs.Fronts.{front_has, first_is, option_cases}
use Rattle.link_lists.proofs.Stored.{push-stored, retire-stored, has-listed, has-retired, not_retired, not_listed, pull-listed, pull-retired, value-listed, value-retired, front-stored}

module _ {T : Type 0} where
  first_some : (a b : Ptr × T) → Some a ≡ Some b → a ≡ b
  first_some a b e = ap (λ (o : Option (Ptr × T)). elim o as (λ _. Ptr × T) [ None ↦ a | Some c ↦ c ]) e

  -- the first node's value, where it is in no second list
  head_value : (l : List (Ptr × T)) (n : Ptr × T) → head_of l ≡ Some n → (has n.0 l ≡ true) × (value_in n.0 l ≡ Some n.1)
  unfolding has value_in
  head_value [] n e = cc
  head_value (m ∷ l) n e =
      subst (λ (k : Ptr × T). (cond (same_ptr k.0 m.0) true (has k.0 l) ≡ true) × (cond (same_ptr k.0 m.0) (Some m.1) (value_in k.0 l) ≡ Some k.1)) (first_some m n e)
      (ap (λ b. cond b true (has m.0 l)) (same_ptr_refl m.0), ap (λ b. cond b (Some m.1) (value_in m.0 l)) (same_ptr_refl m.0))

  front_value : (ls : List (List (Ptr × T))) (k : ℕ) (n : Ptr × T) → front_of k ls ≡ Some n → IsLone n.0 ls → node_value n.0 ls ≡ Some n.1
  unfolding front_of node_value IsLone
  front_value [] k n e l = cc
  front_value (m ∷ ls) zero n e l = let h = head_value m n e in ap (λ b. cond b (value_in n.0 m) (node_value n.0 ls)) h.0 ∙ h.1
  front_value (m ∷ ls) (suc k) n e l = either (has n.0 m)
      (λ t. absurd (true≢false (sym (front_has ls k n e) ∙ l.0 t)))
      (λ f. ap (λ b. cond b (value_in n.0 m) (node_value n.0 ls)) f ∙ front_value ls k n e l.1)

  pub inner : (a b : Option T) → Some a ≡ Some b → a ≡ b
  inner a b e = ap (λ (o : Option (Option T)). elim o as (λ _. Option T) [ None ↦ a | Some c ↦ c ]) e

  mapped : (o : Option T) (x : Option T) → option_map Some o ≡ Some x → (v : T) × (o ≡ Some v) × (x ≡ Some v)
  mapped None x e = cc
  mapped (Some v) x e = (v, refl, cc)

module _ {T : Type 0} where
  none_of : (o : Option (Ptr × T)) → option_map {U = Ptr × Option T} (λ (n : Ptr × T). (n.0, Some n.1)) o ≡ None → o ≡ None
  none_of None e = refl
  none_of (Some n) e = cc

  stored_first : (o : Option (Ptr × T)) (x : Ptr × Option T) → option_map {U = Ptr × Option T} (λ (n : Ptr × T). (n.0, Some n.1)) o ≡ Some x → (n : Ptr × T) × (o ≡ Some n) × (x ≡ (n.0, Some n.1))
  stored_first None x e = cc
  stored_first (Some n) x e = (n, refl, sym (first_some (n.0, Some n.1) x e))

module _ {T : Type 0} (rs : List (List (Ptr × Option T))) (s : NodeLists T) (R : rs ≡ stored s) where
  lone_here : (p : Ptr) → IsLone p rs → IsLone p (stored s)
  lone_here p = subst (IsLone p) R

  module _ (p q : Ptr) (n : p ≡ q) where
    pub in_rings : has_node q s.lists ≡ true → has_node p rs ≡ true
    in_rings h = (λ i. has_node (n i) (R i)) ∙ has-listed q s h

    pub aside_in : contains_id q s.retired ≡ true → has_node p rs ≡ true
    aside_in h = (λ i. has_node (n i) (R i)) ∙ has-retired q s h

    stays : IsLone p rs → has_node q s.lists ≡ true → contains_id q s.retired ≡ false
    stays l h = not_retired q s (subst (λ r. IsLone r (stored s)) n (lone_here p l)) h

    pub value_there : IsLone p rs → has_node q s.lists ≡ true → (x : Option T) → node_value p rs ≡ Some x → (v : T) × (node_value q s.lists ≡ Some v) × (x ≡ Some v)
    value_there l h x e = mapped (node_value q s.lists) x (sym (value-listed q s (stays l h)) ∙ sym (λ i. node_value (n i) (R i)) ∙ e)

    pub left : IsLone p rs → has_node q s.lists ≡ true → (new : List (List (Ptr × Option T))) → new ≡ pull_from p rs → new ≡ stored (record s { lists = pull_from q s.lists })
    left l h new e = e ∙ (λ i. pull_from (n i) (R i)) ∙ pull-listed q s (stays l h)

    pub moved : IsLone p rs → has_node q s.lists ≡ true → (k : ℕ) (new : List (List (Ptr × Option T))) → MatchOption (node_value p rs) ⊥ (λ x. new ≡ push_at (k + 1) (p, x) (pull_from p rs))
        → (v : T) × (node_value q s.lists ≡ Some v) × (new ≡ stored (record s { lists = push_at k (q, v) (pull_from q s.lists) }))
    moved l h k new m = option_cases (node_value p rs)
        (λ e. absurd (subst (λ o. MatchOption o ⊥ (λ x. new ≡ push_at (k + 1) (p, x) (pull_from p rs))) e m))
        (λ x e. let v = value_there l h x e in
        let w = subst (λ o. MatchOption o ⊥ (λ x. new ≡ push_at (k + 1) (p, x) (pull_from p rs))) e m in (
          v.0,
          v.1,
          w ∙ (λ i. push_at (k + 1) (n i, v.2 i) (pull_from p rs)) ∙ ap (push_at (k + 1) (q, Some v.0)) (left l h (pull_from p rs) refl) ∙ push-stored k (q, v.0) (record s { lists = pull_from q s.lists }),
        ))

    pub given_back : contains_id q s.retired ≡ true → (new : List (List (Ptr × Option T))) → new ≡ pull_from p rs → new ≡ stored (record s { retired = without_id q s.retired })
    given_back h new e = e ∙ (λ i. pull_from (n i) (R i)) ∙ pull-retired q s h

    -- whether it has a value says where it is
    pub listed_value : IsLone p rs → has_node q s.lists ≡ true → (x : Option T) → node_value p rs ≡ Some x → (v : T) × (x ≡ Some v) × (contains_id q s.retired ≡ false)
    listed_value l h x e = let v = value_there l h x e in (v.0, v.2, stays l h)

    pub retired_value : IsLone p rs → contains_id q s.retired ≡ true → (x : Option T) → node_value p rs ≡ Some x → (x ≡ None) × (has_node q s.lists ≡ false)
    retired_value l h x e =
        (inner x None (sym e ∙ (λ i. node_value (n i) (R i)) ∙ value-retired q s h), not_listed q s (subst (λ r. IsLone r (stored s)) n (lone_here p l)) h)

  pub pushed : (k : ℕ) (p : Ptr) (v : T) (new : List (List (Ptr × Option T))) → new ≡ push_at (k + 1) (p, Some v) rs → new ≡ stored (record s { lists = push_at k (p, v) s.lists })
  pushed k p v new e = e ∙ ap (push_at (k + 1) (p, Some v)) R ∙ push-stored k (p, v) s

  pub no_first : (k : ℕ) → front_of (k + 1) rs ≡ None → front_of k s.lists ≡ None
  no_first k e = none_of (front_of k s.lists) (sym (front-stored k s) ∙ sym (ap (front_of (k + 1)) R) ∙ e)

  -- the first node of a list
  pub the_first : (k : ℕ) (p : Ptr) → MatchOption (front_of (k + 1) rs) ⊥ (λ n. n.0 ≡ p) → IsLone p rs → (v : T) × (front_of k s.lists ≡ Some (p, v)) × (node_value p rs ≡ Some (Some v)) × (has_node p s.lists ≡ true)
  the_first k p m l =
      let x = first_is (front_of (k + 1) rs) p m in
      let y = stored_first (front_of k s.lists) x.0 (sym (front-stored k s) ∙ sym (ap (front_of (k + 1)) R) ∙ x.1) in
      let at : front_of k s.lists ≡ Some (p, y.0.1) = y.1 ∙ (λ i. Some ((sym (ap (λ (a : Ptr × Option T). a.0) y.2) ∙ x.2) i, y.0.1)) in (
        y.0.1,
        at,
        subst (λ q. node_value q rs ≡ Some (Some y.0.1)) x.2 (front_value rs (k + 1) x.0 x.1 (subst (λ q. IsLone q rs) (sym x.2) l) ∙ ap (λ (a : Ptr × Option T). Some a.1) y.2),
        front_has s.lists k (p, y.0.1) at,
      )

  -- it leaves its list, and is put aside
  pub put_aside : (p : Ptr) → IsLone p rs → has_node p s.lists ≡ true → (new : List (List (Ptr × Option T))) → new ≡ push_at 0 (p, None) (pull_from p rs) → new ≡ stored (record { lists = pull_from p s.lists; retired = s.retired ++ p ∷ [] })
  put_aside p l h new e = e ∙ ap (push_at 0 (p, None)) (left p p refl l h (pull_from p rs) refl) ∙ retire-stored p (record s { lists = pull_from p s.lists })
