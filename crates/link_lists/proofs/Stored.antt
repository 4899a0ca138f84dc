-- What the calls on the rings do to the lists that are stored in them.
use Rattle.std.proofs.Common.{◌≡◌, ℕ, ◌+◌, zero, suc, true, false, cond, List, [], ◌∷◌, ◌++◌, map, replicate, refl, sym, ap, ◌∙◌, add-one, true≢false}
use Rattle.std.specs.Prelude.{Option, None, Some}
use Rattle.std.specs.Option.{option_map}
use denote.RawPtr.{Ptr}
use Rattle.link_lists.specs.Places.{same_ptr}
use Rattle.link_lists.specs.Lists.{contains_id, without_id, has, pull, value_in, has_node, pull_from, node_value, push_at, front_of, NodeLists}
use Rattle.link_lists.specs.Seen.{IsLone, alive, shown, living, dead, stored}
use Rattle.link_lists.proofs.Memory.{either}

names-dead : (T : Type 0) (ps : List Ptr) → map (λ (n : Ptr × Option T). n.0) (dead ps) ≡ ps
unfolding dead
names-dead T [] = refl
names-dead T (p ∷ ps) = ap (λ qs. p ∷ qs) (names-dead T ps)

has-dead : (T : Type 0) (p : Ptr) (ps : List Ptr) → has {T = Option T} p (dead ps) ≡ contains_id p ps
unfolding has dead contains_id
has-dead T p [] = refl
has-dead T p (q ∷ ps) = ap (λ b. cond (same_ptr p q) true b) (has-dead T p ps)

dead-snoc : (T : Type 0) (ps : List Ptr) (p : Ptr) → dead {T = T} ps ++ (p, None) ∷ [] ≡ dead (ps ++ p ∷ [])
unfolding dead
dead-snoc T [] p = refl
dead-snoc T (q ∷ ps) p = ap (λ m. (q, None) ∷ m) (dead-snoc T ps p)

pull-dead : (T : Type 0) (p : Ptr) (ps : List Ptr) → pull {T = Option T} p (dead ps) ≡ dead (without_id p ps)
unfolding pull dead without_id
pull-dead T p [] = refl
pull-dead T p (q ∷ ps) = either (same_ptr p q)
    (λ t. ap (λ b. cond b (dead ps) ((q, None) ∷ pull p (dead ps))) t ∙ sym (ap (λ b. dead (cond b ps (q ∷ without_id p ps))) t))
    (λ f. ap (λ b. cond b (dead ps) ((q, None) ∷ pull p (dead ps))) f ∙ ap (λ m. (q, None) ∷ m) (pull-dead T p ps) ∙ sym (ap (λ b. dead (cond b ps (q ∷ without_id p ps))) f))

value-dead : (T : Type 0) (p : Ptr) (ps : List Ptr) → contains_id p ps ≡ true → value_in {T = Option T} p (dead ps) ≡ Some None
unfolding value_in dead contains_id
value-dead T p [] h = cc
value-dead T p (q ∷ ps) h = either (same_ptr p q)
    (λ t. ap (λ b. cond b (Some None) (value_in p (dead ps))) t)
    (λ f. ap (λ b. cond b (Some None) (value_in p (dead ps))) f ∙ value-dead T p ps (sym (ap (λ b. cond b true (contains_id p ps)) f) ∙ h))

module _ {T : Type 0} where
  alive-living : (l : List (Ptr × T)) → alive (living l) ≡ l
  unfolding alive living
  alive-living [] = refl
  alive-living (n ∷ l) = ap (λ m. n ∷ m) (alive-living l)

  alive-lists : (ls : List (List (Ptr × T))) → map alive (map living ls) ≡ ls
  alive-lists [] = refl
  alive-lists (l ∷ ls) = λ i. alive-living l i ∷ alive-lists ls i

  shown-stored : (s : NodeLists T) → shown (stored s) ≡ s
  shown-stored s = λ i. record { lists = alive-lists s.lists i; retired = names-dead T s.retired i }

  -- rings that store s show it, and keep the invariant
  pub shows : (rs : List (List (Ptr × Option T))) (s : NodeLists T) → rs ≡ stored s → shown rs ≡ s
  shows rs s e = ap shown e ∙ shown-stored s

  pub steady : (rs : List (List (Ptr × Option T))) (s : NodeLists T) → rs ≡ stored s → rs ≡ stored (shown rs)
  steady rs s e = e ∙ ap stored (sym (shows rs s e))

  pub storing : (rs : List (List (Ptr × Option T))) (s : NodeLists T) → shown rs ≡ s → rs ≡ stored (shown rs) → rs ≡ stored s
  storing rs s v i = i ∙ ap stored v

  -- a node comes last
  living-snoc : (l : List (Ptr × T)) (n : Ptr × T) → living (l ++ n ∷ []) ≡ living l ++ (n.0, Some n.1) ∷ []
  unfolding living
  living-snoc [] n = refl
  living-snoc (m ∷ l) n = ap (λ k. (m.0, Some m.1) ∷ k) (living-snoc l n)

  push-living : (k : ℕ) (n : Ptr × T) (ls : List (List (Ptr × T))) → push_at k (n.0, Some n.1) (map living ls) ≡ map living (push_at k n ls)
  unfolding push_at
  push-living k n [] = refl
  push-living zero n (l ∷ ls) = ap (λ m. m ∷ map living ls) (sym (living-snoc l n))
  push-living (suc k) n (l ∷ ls) = ap (λ ms. living l ∷ ms) (push-living k n ls)

  pub push-stored : (k : ℕ) (n : Ptr × T) (s : NodeLists T) → push_at (k + 1) (n.0, Some n.1) (stored s) ≡ stored (record s { lists = push_at k n s.lists })
  unfolding push_at
  push-stored k n s = rw add-one (ap (λ ms. dead s.retired ∷ ms) (push-living k n s.lists))

  pub retire-stored : (p : Ptr) (s : NodeLists T) → push_at 0 (p, None) (stored s) ≡ stored (record s { retired = s.retired ++ p ∷ [] })
  unfolding push_at
  retire-stored p s = ap (λ m. m ∷ map living s.lists) (dead-snoc T s.retired p)

  -- whether a node is there
  has-living : (p : Ptr) (l : List (Ptr × T)) → has p (living l) ≡ has p l
  unfolding has living
  has-living p [] = refl
  has-living p (n ∷ l) = ap (λ b. cond (same_ptr p n.0) true b) (has-living p l)

  has-lists : (p : Ptr) (ls : List (List (Ptr × T))) → has_node p (map living ls) ≡ has_node p ls
  unfolding has_node
  has-lists p [] = refl
  has-lists p (l ∷ ls) = λ i. cond (has-living p l i) true (has-lists p ls i)

  pub has-stored : (p : Ptr) (s : NodeLists T) → has_node p (stored s) ≡ cond (contains_id p s.retired) true (has_node p s.lists)
  unfolding has_node
  has-stored p s = λ i. cond (has-dead T p s.retired i) true (has-lists p s.lists i)

  pub has-listed : (p : Ptr) (s : NodeLists T) → has_node p s.lists ≡ true → has_node p (stored s) ≡ true
  has-listed p s h = has-stored p s ∙ either (contains_id p s.retired) (λ t. ap (λ b. cond b true (has_node p s.lists)) t) (λ f. ap (λ b. cond b true (has_node p s.lists)) f ∙ h)

  pub has-retired : (p : Ptr) (s : NodeLists T) → contains_id p s.retired ≡ true → has_node p (stored s) ≡ true
  has-retired p s h = has-stored p s ∙ ap (λ b. cond b true (has_node p s.lists)) h

  -- a node that is nowhere in the rings is in no list, and isn't retired
  pub absent-stored : (p : Ptr) (s : NodeLists T) → has_node p (stored s) ≡ false → (has_node p s.lists ≡ false) × (contains_id p s.retired ≡ false)
  absent-stored p s h = either (contains_id p s.retired)
      (λ t. absurd (true≢false (sym (has-retired p s t) ∙ h)))
      (λ f. (sym (has-stored p s ∙ ap (λ b. cond b true (has_node p s.lists)) f) ∙ h, f))

  -- a node of the lists isn't retired, and a retired one isn't in the lists
  pub not_retired : (p : Ptr) (s : NodeLists T) → IsLone p (stored s) → has_node p s.lists ≡ true → contains_id p s.retired ≡ false
  unfolding IsLone
  not_retired p s l h = either (contains_id p s.retired) (λ t. absurd (true≢false (sym (has-lists p s.lists ∙ h) ∙ l.0 (has-dead T p s.retired ∙ t)))) (λ f. f)

  pub not_listed : (p : Ptr) (s : NodeLists T) → IsLone p (stored s) → contains_id p s.retired ≡ true → has_node p s.lists ≡ false
  unfolding IsLone
  not_listed p s l h = sym (has-lists p s.lists) ∙ l.0 (has-dead T p s.retired ∙ h)

  -- a node leaves
  pull-living : (p : Ptr) (l : List (Ptr × T)) → pull p (living l) ≡ living (pull p l)
  unfolding pull living
  pull-living p [] = refl
  pull-living p (n ∷ l) = either (same_ptr p n.0)
      (λ t. ap (λ b. cond b (living l) ((n.0, Some n.1) ∷ pull p (living l))) t ∙ sym (ap (λ b. living (cond b l (n ∷ pull p l))) t))
      (λ f. ap (λ b. cond b (living l) ((n.0, Some n.1) ∷ pull p (living l))) f ∙ ap (λ m. (n.0, Some n.1) ∷ m) (pull-living p l) ∙ sym (ap (λ b. living (cond b l (n ∷ pull p l))) f))

  pull-lists : (p : Ptr) (ls : List (List (Ptr × T))) → pull_from p (map living ls) ≡ map living (pull_from p ls)
  unfolding pull_from
  pull-lists p [] = refl
  pull-lists p (l ∷ ls) = either (has p l)
      (λ t. ap (λ b. cond b (pull p (living l) ∷ map living ls) (living l ∷ pull_from p (map living ls))) (has-living p l ∙ t) ∙ ap (λ m. m ∷ map living ls) (pull-living p l) ∙ sym (ap (λ b. map living (cond b (pull p l ∷ ls) (l ∷ pull_from p ls))) t))
      (λ f. ap (λ b. cond b (pull p (living l) ∷ map living ls) (living l ∷ pull_from p (map living ls))) (has-living p l ∙ f) ∙ ap (λ ms. living l ∷ ms) (pull-lists p ls) ∙ sym (ap (λ b. map living (cond b (pull p l ∷ ls) (l ∷ pull_from p ls))) f))

  pub pull-listed : (p : Ptr) (s : NodeLists T) → contains_id p s.retired ≡ false → pull_from p (stored s) ≡ stored (record s { lists = pull_from p s.lists })
  unfolding pull_from
  pull-listed p s f =
      ap (λ b. cond b (pull p (dead s.retired) ∷ map living s.lists) (dead s.retired ∷ pull_from p (map living s.lists))) (has-dead T p s.retired ∙ f) ∙ ap (λ ms. dead s.retired ∷ ms) (pull-lists p s.lists)

  pub pull-retired : (p : Ptr) (s : NodeLists T) → contains_id p s.retired ≡ true → pull_from p (stored s) ≡ stored (record s { retired = without_id p s.retired })
  unfolding pull_from
  pull-retired p s t =
      ap (λ b. cond b (pull p (dead s.retired) ∷ map living s.lists) (dead s.retired ∷ pull_from p (map living s.lists))) (has-dead T p s.retired ∙ t) ∙ ap (λ m. m ∷ map living s.lists) (pull-dead T p s.retired)

  -- values
  value-living : (p : Ptr) (l : List (Ptr × T)) → value_in p (living l) ≡ option_map Some (value_in p l)
  unfolding value_in living
  value-living p [] = refl
  value-living p (n ∷ l) = either (same_ptr p n.0)
      (λ t. ap (λ b. cond b (Some (Some n.1)) (value_in p (living l))) t ∙ sym (ap (λ b. option_map Some (cond b (Some n.1) (value_in p l))) t))
      (λ f. ap (λ b. cond b (Some (Some n.1)) (value_in p (living l))) f ∙ value-living p l ∙ sym (ap (λ b. option_map Some (cond b (Some n.1) (value_in p l))) f))

  value-lists : (p : Ptr) (ls : List (List (Ptr × T))) → node_value p (map living ls) ≡ option_map Some (node_value p ls)
  unfolding node_value
  value-lists p [] = refl
  value-lists p (l ∷ ls) = either (has p l)
      (λ t. ap (λ b. cond b (value_in p (living l)) (node_value p (map living ls))) (has-living p l ∙ t) ∙ value-living p l ∙ sym (ap (λ b. option_map Some (cond b (value_in p l) (node_value p ls))) t))
      (λ f. ap (λ b. cond b (value_in p (living l)) (node_value p (map living ls))) (has-living p l ∙ f) ∙ value-lists p ls ∙ sym (ap (λ b. option_map Some (cond b (value_in p l) (node_value p ls))) f))

  pub value-listed : (p : Ptr) (s : NodeLists T) → contains_id p s.retired ≡ false → node_value p (stored s) ≡ option_map Some (node_value p s.lists)
  unfolding node_value
  value-listed p s f = ap (λ b. cond b (value_in p (dead s.retired)) (node_value p (map living s.lists))) (has-dead T p s.retired ∙ f) ∙ value-lists p s.lists

  pub value-retired : (p : Ptr) (s : NodeLists T) → contains_id p s.retired ≡ true → node_value p (stored s) ≡ Some None
  unfolding node_value
  value-retired p s t = ap (λ b. cond b (value_in p (dead s.retired)) (node_value p (map living s.lists))) (has-dead T p s.retired ∙ t) ∙ value-dead T p s.retired t

  -- the first node
  abbrev stored_node : Ptr × T → Ptr × Option T
  stored_node n = (n.0, Some n.1)

  front-lists : (k : ℕ) (ls : List (List (Ptr × T))) → front_of k (map living ls) ≡ option_map stored_node (front_of k ls)
  unfolding front_of living
  front-lists k [] = refl
  front-lists zero ([] ∷ ls) = refl
  front-lists zero ((n ∷ l) ∷ ls) = refl
  front-lists (suc k) (l ∷ ls) = front-lists k ls

  pub front-stored : (k : ℕ) (s : NodeLists T) → front_of (k + 1) (stored s) ≡ option_map stored_node (front_of k s.lists)
  unfolding front_of
  front-stored k s = rw add-one (front-lists k s.lists)

-- empty lists
living-replicate : (T : Type 0) (k : ℕ) → map (living {T = T}) (replicate k []) ≡ replicate k []
unfolding living
living-replicate T zero = refl
living-replicate T (suc k) = ap (λ ls. [] ∷ ls) (living-replicate T k)

pub empty-stored : (T : Type 0) (k n : ℕ) → n ≡ k → replicate (n + 1) [] ≡ stored {T = T} (record { lists = replicate k []; retired = [] })
unfolding dead
empty-stored T k n e = ap (λ m. replicate (m + 1) []) e ∙ rw add-one (ap (λ ls. [] ∷ ls) (sym (living-replicate T k)))
