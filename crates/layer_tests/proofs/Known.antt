-- Which nodes are in lists or retired after a call.
use Rattle.std.proofs.Common.{◌≡◌, ℕ, ◌<◌, zero, suc, true, false, cond, List, [], ◌∷◌, ◌++◌, length, refl, sym, ap, ◌∙◌, subst, arith}
use Rattle.std.specs.Prelude.{◌||◌, ⊤, Option, None, Some, MatchOption, IfSome, Result, Ok, Err, IfOk, MatchResult}
use Rattle.std.specs.Result.{result_ok}
use denote.RawPtr.{Ptr}
use Rattle.link_lists.specs.Places.{same_ptr}
use Rattle.link_lists.specs.Lists.{contains_id, without_id, has, pull, has_node, pull_from, push_at, NodeLists, IsKnown}
use Rattle.link_lists.proofs.Facts.{length-pull_from, length-push_at}
use Rattle.link_lists.proofs.Memory.{either, same_ptr_refl, same_ptr_eq}

module _ {T : Type 0} where
  has-snoc : (q : Ptr) (n : Ptr × T) (l : List (Ptr × T)) → has q (l ++ n ∷ []) ≡ (same_ptr q n.0 || has q l)
  unfolding has
  has-snoc q n [] = elim (same_ptr q n.0) as (λ b. cond b true false ≡ (b || false)) [ true ↦ refl | false ↦ refl ]
  has-snoc q n (m ∷ l) = ap (λ b. cond (same_ptr q m.0) true b) (has-snoc q n l)
      ∙ elim (same_ptr q m.0) as (λ b. cond b true (same_ptr q n.0 || has q l) ≡ (same_ptr q n.0 || cond b true (has q l))) [ true ↦ elim (same_ptr q n.0) as (λ c. true ≡ (c || true)) [ true ↦ refl | false ↦ refl ] | false ↦ refl ]

  -- the lists with one more node have that one and those before
  pub has_node-push_at : (q : Ptr) (k : ℕ) (n : Ptr × T) (ls : List (List (Ptr × T))) → k < length ls → has_node q (push_at k n ls) ≡ (same_ptr q n.0 || has_node q ls)
  unfolding has_node push_at
  has_node-push_at q k n [] h = absurd (omega arith)
  has_node-push_at q zero n (l ∷ ls) h = ap (λ b. cond b true (has_node q ls)) (has-snoc q n l)
      ∙ elim (same_ptr q n.0) as (λ c. cond (c || has q l) true (has_node q ls) ≡ (c || cond (has q l) true (has_node q ls))) [ true ↦ refl | false ↦ refl ]
  has_node-push_at q (suc k) n (l ∷ ls) h = ap (λ b. cond (has q l) true b) (has_node-push_at q k n ls (omega arith))
      ∙ elim (has q l) as (λ b. cond b true (same_ptr q n.0 || has_node q ls) ≡ (same_ptr q n.0 || cond b true (has_node q ls))) [ true ↦ elim (same_ptr q n.0) as (λ c. true ≡ (c || true)) [ true ↦ refl | false ↦ refl ] | false ↦ refl ]

  pub has_new : (k : ℕ) (p : Ptr) (v : T) (ls : List (List (Ptr × T))) → k < length ls → has_node p (push_at k (p, v) ls) ≡ true
  has_new k p v ls h = has_node-push_at p k (p, v) ls h ∙ ap (λ b. b || has_node p ls) (same_ptr_refl p)

  pub has_still : (q : Ptr) (k : ℕ) (n : Ptr × T) (ls : List (List (Ptr × T))) → k < length ls → has_node q ls ≡ true → has_node q (push_at k n ls) ≡ true
  has_still q k n ls h t = has_node-push_at q k n ls h ∙ ap (λ b. same_ptr q n.0 || b) t ∙ elim (same_ptr q n.0) as (λ c. (c || true) ≡ true) [ true ↦ refl | false ↦ refl ]

  has-pull_other : (q p : Ptr) (l : List (Ptr × T)) → same_ptr q p ≡ false → has q (pull p l) ≡ has q l
  unfolding has pull
  has-pull_other q p [] n = refl
  has-pull_other q p (m ∷ l) n = either (same_ptr p m.0)
      (λ t. let away : same_ptr q m.0 ≡ false = ap (same_ptr q) (sym (same_ptr_eq p m.0 t)) ∙ n in
      ap (λ c. has q (cond c l (m ∷ pull p l))) t ∙ sym (ap (λ c. cond c true (has q l)) away))
      (λ f. ap (λ c. has q (cond c l (m ∷ pull p l))) f ∙ ap (λ b. cond (same_ptr q m.0) true b) (has-pull_other q p l n))

  -- the other nodes stay
  pub has_node-pull_other : (q p : Ptr) (ls : List (List (Ptr × T))) → same_ptr q p ≡ false → has_node q (pull_from p ls) ≡ has_node q ls
  unfolding has_node pull_from
  has_node-pull_other q p [] n = refl
  has_node-pull_other q p (l ∷ ls) n = either (has p l)
      (λ t. ap (λ c. has_node q (cond c (pull p l ∷ ls) (l ∷ pull_from p ls))) t ∙ ap (λ b. cond b true (has_node q ls)) (has-pull_other q p l n))
      (λ f. ap (λ c. has_node q (cond c (pull p l ∷ ls) (l ∷ pull_from p ls))) f ∙ ap (λ b. cond (has q l) true b) (has_node-pull_other q p ls n))

contains-snoc : (q p : Ptr) (ps : List Ptr) → contains_id q (ps ++ p ∷ []) ≡ (same_ptr q p || contains_id q ps)
unfolding contains_id
contains-snoc q p [] = elim (same_ptr q p) as (λ b. cond b true false ≡ (b || false)) [ true ↦ refl | false ↦ refl ]
contains-snoc q p (r ∷ ps) = ap (λ b. cond (same_ptr q r) true b) (contains-snoc q p ps)
    ∙ elim (same_ptr q r) as (λ b. cond b true (same_ptr q p || contains_id q ps) ≡ (same_ptr q p || cond b true (contains_id q ps))) [ true ↦ elim (same_ptr q p) as (λ c. true ≡ (c || true)) [ true ↦ refl | false ↦ refl ] | false ↦ refl ]

-- a node that a front loses is retired, so each node stays in one of the two
pub known_still : {T : Type 0} (q p : Ptr) (ls : List (List (Ptr × T))) (ps : List Ptr) → (has_node q ls || contains_id q ps) ≡ true → (has_node q (pull_from p ls) || contains_id q (ps ++ p ∷ [])) ≡ true
known_still q p ls ps h = either (same_ptr q p)
    (λ t. ap (λ b. has_node q (pull_from p ls) || b) (contains-snoc q p ps ∙ ap (λ b. b || contains_id q ps) t) ∙ elim (has_node q (pull_from p ls)) as (λ c. (c || true) ≡ true) [ true ↦ refl | false ↦ refl ])
    (λ f. (λ i. has_node-pull_other q p ls f i || (contains-snoc q p ps ∙ ap (λ b. b || contains_id q ps) f) i) ∙ h)

contains-without_other : (q p : Ptr) (ps : List Ptr) → same_ptr q p ≡ false → contains_id q (without_id p ps) ≡ contains_id q ps
unfolding contains_id without_id
contains-without_other q p [] n = refl
contains-without_other q p (r ∷ ps) n = either (same_ptr p r)
    (λ t. let away : same_ptr q r ≡ false = ap (same_ptr q) (sym (same_ptr_eq p r t)) ∙ n in
    ap (λ c. contains_id q (cond c ps (r ∷ without_id p ps))) t ∙ sym (ap (λ c. cond c true (contains_id q ps)) away))
    (λ f. ap (λ c. contains_id q (cond c ps (r ∷ without_id p ps))) f ∙ ap (λ b. cond (same_ptr q r) true b) (contains-without_other q p ps n))

-- which nodes are known after a call
module _ {T : Type 0} (q : Ptr) (s : NodeLists T) (h : IsKnown q s) where
  pub known-push : (k : ℕ) (n : Ptr × T) → k < length s.lists → IsKnown q (record s { lists = push_at k n s.lists })
  known-push k n low = (λ i. has_node-push_at q k n s.lists low i || contains_id q s.retired)
      ∙ elim (same_ptr q n.0) as (λ c. ((c || has_node q s.lists) || contains_id q s.retired) ≡ (c || (has_node q s.lists || contains_id q s.retired))) [ true ↦ refl | false ↦ refl ]
      ∙ ap (λ b. same_ptr q n.0 || b) h ∙ elim (same_ptr q n.0) as (λ c. (c || true) ≡ true) [ true ↦ refl | false ↦ refl ]

  pub known-pull : (p : Ptr) → same_ptr q p ≡ false → IsKnown q (record s { lists = pull_from p s.lists })
  known-pull p n = ap (λ b. b || contains_id q s.retired) (has_node-pull_other q p s.lists n) ∙ h

  pub known-without : (p : Ptr) → same_ptr q p ≡ false → IsKnown q (record s { retired = without_id p s.retired })
  known-without p n = ap (λ b. has_node q s.lists || b) (contains-without_other q p s.retired n) ∙ h

  pub known-take : (p : Ptr) → IsKnown q (record { lists = pull_from p s.lists; retired = s.retired ++ p ∷ [] })
  known-take p = known_still q p s.lists s.retired h

pub known_listed : {T : Type 0} (q : Ptr) (s : NodeLists T) → has_node q s.lists ≡ true → IsKnown q s
known_listed q s t = ap (λ b. b || contains_id q s.retired) t

-- what the calls keep: the number of lists, and which nodes are known
module _ {T : Type 0} (old new : NodeLists T) where
  abbrev Stays : Type 0
  Stays = (length new.lists ≡ length old.lists) × ((q : Ptr) → IsKnown q old → IsKnown q new)

  same_stays : new ≡ old → Stays
  same_stays e = (ap (λ (s : NodeLists T). length s.lists) e, λ q h. subst (IsKnown q) (sym e) h)

  pub take_stays : (o : Option (Ptr × T)) (r : Option T) → (o ≡ None → (r ≡ None) × (new ≡ old)) → MatchOption o ⊤ (λ n. (r ≡ Some n.1) × (new ≡ record { lists = pull_from n.0 old.lists; retired = old.retired ++ n.0 ∷ [] })) → Stays
  take_stays None r f g = same_stays (f refl).1
  take_stays (Some n) r f g = (ap (λ (s : NodeLists T). length s.lists) g.1 ∙ length-pull_from n.0 old.lists, λ q h. subst (IsKnown q) (sym g.1) (known-take q old h n.0))

  pub move_stays : (k : ℕ) (p : Ptr) → k < length old.lists → (o : Option T) → MatchOption o ⊥ (λ v. new ≡ record old { lists = push_at k (p, v) (pull_from p old.lists) }) → Stays
  move_stays k p low None m = absurd m
  move_stays k p low (Some v) m =
      let l = length-pull_from p old.lists in let low' : k < length (pull_from p old.lists) = omega (arith, l, low) in (
        ap (λ (s : NodeLists T). length s.lists) m ∙ length-push_at k (p, v) (pull_from p old.lists) ∙ l,
        λ q h. subst (IsKnown q) (sym m) (either (same_ptr q p)
            (λ t. known_listed q (record old { lists = push_at k (p, v) (pull_from p old.lists) }) (subst (λ r. has_node r (push_at k (p, v) (pull_from p old.lists)) ≡ true) (sym (same_ptr_eq q p t)) (has_new k p v (pull_from p old.lists) low')))
            (λ n. known-push q (record old { lists = pull_from p old.lists }) (known-pull q old h p n) k (p, v) low')),
      )

  module _ {E : Type 0} (k : ℕ) (v : T) (low : k < length old.lists) where
    pub insert_stays : (r : Result Ptr E) (P : E → Type 0) → IfOk r (λ n. new ≡ record old { lists = push_at k (n, v) old.lists }) → MatchResult r (λ _. ⊤) (λ e. (new ≡ old) × P e) → Stays
    insert_stays (Ok n) P o e = (ap (λ (s : NodeLists T). length s.lists) o ∙ length-push_at k (n, v) old.lists, λ q h. subst (IsKnown q) (sym o) (known-push q old h k (n, v) low))
    insert_stays (Err x) P o e = same_stays e.0

    pub insert_keeps : (r : Result Ptr E) (P : E → Type 0) → IfOk r (λ n. new ≡ record old { lists = push_at k (n, v) old.lists }) → MatchResult r (λ _. ⊤) (λ e. (new ≡ old) × P e) → (q : Ptr) → has_node q old.lists ≡ true → has_node q new.lists ≡ true
    insert_keeps (Ok n) P o e q h = ap (λ (s : NodeLists T). has_node q s.lists) o ∙ has_still q k (n, v) old.lists low h
    insert_keeps (Err x) P o e q h = ap (λ (s : NodeLists T). has_node q s.lists) e.0 ∙ h

    pub insert_has : (r : Result Ptr E) → IfOk r (λ n. new ≡ record old { lists = push_at k (n, v) old.lists }) → IfSome (result_ok r) (λ n. has_node n new.lists ≡ true)
    insert_has (Ok n) o = ap (λ (s : NodeLists T). has_node n s.lists) o ∙ has_new k n v old.lists low
    insert_has (Err x) o = tt
