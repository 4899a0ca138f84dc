-- A node leaves its ring, and a node that is in none comes into the k-th as its last.
use Rattle.std.proofs.Common.{◌≡◌, ℕ, ◌<◌, zero, suc, true, cond, List, [], ◌∷◌, ◌++◌, map, length, slice_index_or, refl, sym, ap, ◌∙◌, ◌+◌, subst, append_assoc, length-append, arith}
use Rattle.std.specs.Prelude.{⊤, Option, None, Some}
use Rattle.std.specs.List.{AllByRecursion, IsDistinct}
use Rattle.std.proofs.lemmas.List.{map-append}
use denote.RawPtr.{Ptr}
use Rattle.link_lists.specs.Places.{same_ptr}
use Rattle.link_lists.specs.Cells.{Cell, IsIn}
use Rattle.link_lists.specs.Lists.{pull, pull_from, has, has_node, value_in, node_value}
use Rattle.link_lists.specs.Notes.{Ring, ring_push, ring_pull, seen}
use Rattle.link_lists.specs.Rings.{Pair, Edge, Tied, edges_of}
use Rattle.link_lists.specs.Links.{joined, inserted, next_to}
use Rattle.link_lists.specs.Kept.{ids, edges, Holds, Kept, Sound}
use Rattle.link_lists.specs.declared.member.Member.{Member}
use Rattle.link_lists.specs.declared.heap.Place.{Place}
use Rattle.link_lists.proofs.Memory.{either, had, same_ptr_eq}
use Rattle.link_lists.proofs.Changes.{IsIn-kept, IsIn-weaker, IsIn-both, length-change}
use Rattle.link_lists.proofs.Edges.{IsOff, differs, Tied-unlinked, Tied-linked}
use Rattle.link_lists.proofs.Splits.{all_right}
use Rattle.link_lists.proofs.Pushed.{end_is, nth_end, end_cut, ends-push, all_push, all_holds, value_past, holds_past, bare_push, bare_past, length-push, length-inserted}

first_edge : (ps : List Ptr) (e : Ptr) → (b : Ptr) × (ys : List Pair) × ((a : Ptr) → edges_of a ps e ≡ (a, b) ∷ ys)
unfolding edges_of
first_edge [] e = (e, [], λ a. refl)
first_edge (q ∷ ps) e = (q, edges_of q ps e, λ a. refl)

-- the edges on both sides of a node become one
abbrev Cut : Ptr → List Pair → List Pair → Type 0
Cut p es ds = (xs : List Pair) × (a : Ptr) × (b : Ptr) × (ys : List Pair) × (es ≡ xs ++ (a, p) ∷ (p, b) ∷ ys) × (ds ≡ xs ++ (a, b) ∷ ys)

module _ {T : Type 0} where
  list_cut : (p a : Ptr) (l : List (Ptr × T)) (e : Ptr) → has p l ≡ true → Cut p (edges_of a (ids l) e) (edges_of a (ids (pull p l)) e)
  unfolding edges_of has pull
  list_cut p a [] e h = cc
  list_cut p a (n ∷ l) e h = either (same_ptr p n.0)
      (λ t. let on = first_edge (ids l) e in (
        [],
        a,
        on.0,
        on.1,
        (λ i. (a, sym (same_ptr_eq p n.0 t) i) ∷ on.2 (sym (same_ptr_eq p n.0 t) i) i),
        ap (λ c. edges_of a (ids (cond c l (n ∷ pull p l))) e) t ∙ on.2 a,
      ))
      (λ f. let on = list_cut p n.0 l e (sym (ap (λ c. cond c true (has p l)) f) ∙ h) in (
        (a, n.0) ∷ on.0,
        on.1,
        on.2,
        on.3,
        ap (λ es. (a, n.0) ∷ es) on.4,
        ap (λ c. edges_of a (ids (cond c l (n ∷ pull p l))) e) f ∙ ap (λ es. (a, n.0) ∷ es) on.5,
      ))

  pub node_cut : (p : Ptr) (rs : List (Ring T)) → has_node p (seen rs) ≡ true → Cut p (edges rs) (edges (ring_pull p rs))
  unfolding edges has_node ring_pull
  node_cut p [] h = cc
  node_cut p (r ∷ rs) h = either (has p r.1)
      (λ t. let on = list_cut p r.0 r.1 r.0 t in (
        on.0,
        on.1,
        on.2,
        on.3 ++ edges rs,
        ap (λ es. es ++ edges rs) on.4 ∙ append_assoc on.0 ((on.1, p) ∷ (p, on.2) ∷ on.3) (edges rs),
        ap (λ c. edges (cond c ((r.0, pull p r.1) ∷ rs) (r ∷ ring_pull p rs))) t ∙ ap (λ es. es ++ edges rs) on.5 ∙ append_assoc on.0 ((on.1, on.2) ∷ on.3) (edges rs),
      ))
      (λ f. let on = node_cut p rs (sym (ap (λ c. cond c true (has_node p (seen rs))) f) ∙ h) in let mine = edges_of r.0 (ids r.1) r.0 in (
        mine ++ on.0,
        on.1,
        on.2,
        on.3,
        ap (λ es. mine ++ es) on.4 ∙ sym (append_assoc mine on.0 ((on.1, p) ∷ (p, on.2) ∷ on.3)),
        ap (λ c. edges (cond c ((r.0, pull p r.1) ∷ rs) (r ∷ ring_pull p rs))) f ∙ ap (λ es. mine ++ es) on.5 ∙ sym (append_assoc mine on.0 ((on.1, on.2) ∷ on.3)),
      ))

  pub seen-pull : (p : Ptr) (rs : List (Ring T)) → seen (ring_pull p rs) ≡ pull_from p (seen rs)
  unfolding ring_pull pull_from
  seen-pull p [] = refl
  seen-pull p (r ∷ rs) = either (has p r.1)
      (λ t. ap (λ c. seen (cond c ((r.0, pull p r.1) ∷ rs) (r ∷ ring_pull p rs))) t ∙ sym (ap (λ c. cond c (pull p r.1 ∷ seen rs) (r.1 ∷ pull_from p (seen rs))) t))
      (λ f. ap (λ c. seen (cond c ((r.0, pull p r.1) ∷ rs) (r ∷ ring_pull p rs))) f ∙ ap (λ ls. r.1 ∷ ls) (seen-pull p rs) ∙ sym (ap (λ c. cond c (pull p r.1 ∷ seen rs) (r.1 ∷ pull_from p (seen rs))) f))

  pub len_pull : (p : Ptr) (rs : List (Ring T)) (k : ℕ) → k < length (seen rs) → k < length (seen (ring_pull p rs))
  unfolding ring_pull
  len_pull p [] k h = absurd (omega arith)
  len_pull p (r ∷ rs) zero h = either (has p r.1)
      (λ t. subst (λ c. 0 < length (seen (cond c ((r.0, pull p r.1) ∷ rs) (r ∷ ring_pull p rs)))) (sym t) (omega arith))
      (λ f. subst (λ c. 0 < length (seen (cond c ((r.0, pull p r.1) ∷ rs) (r ∷ ring_pull p rs)))) (sym f) (omega arith))
  len_pull p (r ∷ rs) (suc k) h = let on = len_pull p rs k (omega arith) in either (has p r.1)
      (λ t. subst (λ c. suc k < length (seen (cond c ((r.0, pull p r.1) ∷ rs) (r ∷ ring_pull p rs)))) (sym t) (omega arith))
      (λ f. subst (λ c. suc k < length (seen (cond c ((r.0, pull p r.1) ∷ rs) (r ∷ ring_pull p rs)))) (sym f) (omega arith))

  ends-pull : (p : Ptr) (rs : List (Ring T)) → map (λ (r : Ring T). r.0) (ring_pull p rs) ≡ map (λ (r : Ring T). r.0) rs
  unfolding ring_pull
  ends-pull p [] = refl
  ends-pull p (r ∷ rs) = either (has p r.1)
      (λ t. ap (λ c. map (λ (r : Ring T). r.0) (cond c ((r.0, pull p r.1) ∷ rs) (r ∷ ring_pull p rs))) t)
      (λ f. ap (λ c. map (λ (r : Ring T). r.0) (cond c ((r.0, pull p r.1) ∷ rs) (r ∷ ring_pull p rs))) f ∙ ap (λ ls. r.0 ∷ ls) (ends-pull p rs))

  all_pull : (P : Ptr × T → Type 0) (p : Ptr) (l : List (Ptr × T)) → AllByRecursion P l → AllByRecursion P (pull p l)
  unfolding pull
  all_pull P p [] t = tt
  all_pull P p (n ∷ l) t = either (same_ptr p n.0)
      (λ e. subst (λ c. AllByRecursion P (cond c l (n ∷ pull p l))) (sym e) t.1)
      (λ f. subst (λ c. AllByRecursion P (cond c l (n ∷ pull p l))) (sym f) (t.0, all_pull P p l t.1))

  all_ring_pull : (P : Ptr × T → Type 0) (p : Ptr) (rs : List (Ring T)) → AllByRecursion (λ (r : Ring T). AllByRecursion P r.1) rs → AllByRecursion (λ (r : Ring T). AllByRecursion P r.1) (ring_pull p rs)
  unfolding ring_pull
  all_ring_pull P p [] t = tt
  all_ring_pull P p (r ∷ rs) t = either (has p r.1)
      (λ e. subst (λ c. AllByRecursion (λ (r : Ring T). AllByRecursion P r.1) (cond c ((r.0, pull p r.1) ∷ rs) (r ∷ ring_pull p rs))) (sym e) (all_pull P p r.1 t.0, t.1))
      (λ f. subst (λ c. AllByRecursion (λ (r : Ring T). AllByRecursion P r.1) (cond c ((r.0, pull p r.1) ∷ rs) (r ∷ ring_pull p rs))) (sym f) (t.0, all_ring_pull P p rs t.1))

  -- what holds of each end still does
  pub ends_pull : (P : Ptr → Type 0) (p : Ptr) (rs : List (Ring T)) → AllByRecursion (λ (r : Ring T). P r.0) rs → AllByRecursion (λ (r : Ring T). P r.0) (ring_pull p rs)
  unfolding ring_pull
  ends_pull P p [] t = tt
  ends_pull P p (r ∷ rs) t = either (has p r.1)
      (λ e. subst (λ c. AllByRecursion (λ (r : Ring T). P r.0) (cond c ((r.0, pull p r.1) ∷ rs) (r ∷ ring_pull p rs))) (sym e) t)
      (λ f. subst (λ c. AllByRecursion (λ (r : Ring T). P r.0) (cond c ((r.0, pull p r.1) ∷ rs) (r ∷ ring_pull p rs))) (sym f) (t.0, ends_pull P p rs t.1))

  -- the value of the node at p
  value_in_list : (P : Ptr × T → Type 0) (p : Ptr) (l : List (Ptr × T)) → has p l ≡ true → AllByRecursion P l → (v : T) × (value_in p l ≡ Some v) × P (p, v)
  unfolding has value_in
  value_in_list P p [] h t = cc
  value_in_list P p (n ∷ l) h t = either (same_ptr p n.0)
      (λ e. (n.1, ap (λ c. cond c (Some n.1) (value_in p l)) e, subst (λ q. P (q, n.1)) (sym (same_ptr_eq p n.0 e)) t.0))
      (λ f. let on = value_in_list P p l (sym (ap (λ c. cond c true (has p l)) f) ∙ h) t.1 in (on.0, ap (λ c. cond c (Some n.1) (value_in p l)) f ∙ on.1, on.2))

  pub value_of : (P : Ptr × T → Type 0) (p : Ptr) (rs : List (Ring T)) → has_node p (seen rs) ≡ true → AllByRecursion (λ (r : Ring T). AllByRecursion P r.1) rs → (v : T) × (node_value p (seen rs) ≡ Some v) × P (p, v)
  unfolding has_node node_value
  value_of P p [] h t = cc
  value_of P p (r ∷ rs) h t = either (has p r.1)
      (λ e. let on = value_in_list P p r.1 e t.0 in (on.0, ap (λ c. cond c (value_in p r.1) (node_value p (seen rs))) e ∙ on.1, on.2))
      (λ f. let on = value_of P p rs (sym (ap (λ c. cond c true (has_node p (seen rs))) f) ∙ h) t.1 in (on.0, ap (λ c. cond c (value_in p r.1) (node_value p (seen rs))) f ∙ on.1, on.2))

module _ {A T : Type 0} where
  value_joined : (a b q : Ptr) (v : Option T) (cs : List (Cell A (Member T))) → IsIn q cs (λ _ k. k.value ≡ v) → IsIn q (joined a b cs) (λ _ k. k.value ≡ v)
  value_joined a b q v cs h =
      let P : A → Member T → Type 0 = λ _ k. k.value ≡ v in
      IsIn-kept q b (λ k. record k { prev = record { ptr = a } }) (next_to a b cs) P (λ _ _ t. t) (IsIn-kept q a (λ k. record k { next = record { ptr = b } }) cs P (λ _ _ t. t) h)

  holds_joined : (a b : Ptr) (cs : List (Cell A (Member T))) (l : List (Ptr × T)) → Holds cs l → Holds (joined a b cs) l
  holds_joined a b cs [] t = tt
  holds_joined a b cs (n ∷ l) t = (value_joined a b n.0 (Some n.1) cs t.0, holds_joined a b cs l t.1)

  bare_rest : (a b : Ptr) (cs : List (Cell A (Member T))) (rs : List (Ring T)) → AllByRecursion (λ (r : Ring T). IsIn r.0 cs (λ _ m. m.value ≡ None)) rs → AllByRecursion (λ (r : Ring T). IsIn r.0 (joined a b cs) (λ _ m. m.value ≡ None)) rs
  bare_rest a b cs [] t = tt
  bare_rest a b cs (r ∷ rs) t = (value_joined a b r.0 None cs t.0, bare_rest a b cs rs t.1)

  bare_joined : (a b p : Ptr) (cs : List (Cell A (Member T))) (rs : List (Ring T)) → AllByRecursion (λ (r : Ring T). IsIn r.0 cs (λ _ m. m.value ≡ None)) rs → AllByRecursion (λ (r : Ring T). IsIn r.0 (joined a b cs) (λ _ m. m.value ≡ None)) (ring_pull p rs)
  bare_joined a b p cs rs t = ends_pull (λ q. IsIn q (joined a b cs) (λ _ m. m.value ≡ None)) p rs (bare_rest a b cs rs t)

  -- a node that is in the heap and in no ring
  pub record Loose (cs : List (Cell A (Member T))) (rs : List (Ring T)) (p : Ptr) (v : T) : Type 0 where
    pub value : IsIn p cs (λ _ k. k.value ≡ Some v)
    pub off_out : IsOff p (map (λ e. e.0) (edges rs))
    pub off_into : IsOff p (map (λ e. e.1) (edges rs))

  module _ (cs : List (Cell A (Member T))) (es : List Place) (rs : List (Ring T)) (K : Kept cs es rs) (p : Ptr) (h : has_node p (seen rs) ≡ true) where
    abbrev cut : Cut p (edges rs) (edges (ring_pull p rs))
    cut = node_cut p rs h

    pub the_value : (v : T) × (node_value p (seen rs) ≡ Some v) × IsIn p cs (λ _ k. k.value ≡ Some v)
    the_value = value_of (λ n. IsIn n.0 cs (λ _ k. k.value ≡ Some n.1)) p rs h K.values

    tied : Tied cs (cut.0 ++ (cut.1, p) ∷ (p, cut.2) ∷ cut.3)
    tied = subst (Tied cs) cut.4 K.tied

    two : Edge cs (cut.1, p) × Edge cs (p, cut.2)
    two = let r = all_right (Edge cs) cut.0 ((cut.1, p) ∷ (p, cut.2) ∷ cut.3) tied.edges in (r.0, r.1.0)

    pub sides_in : IsIn p cs (λ _ n. IsIn n.prev.ptr cs (λ _ _. ⊤) × IsIn n.next.ptr cs (λ _ _. ⊤))
    sides_in = IsIn-weaker p cs _ (λ _ n. IsIn n.prev.ptr cs (λ _ _. ⊤) × IsIn n.next.ptr cs (λ _ _. ⊤))
        (λ _ n t. (subst (λ r. IsIn r cs (λ _ _. ⊤)) (sym t.0) (IsIn-weaker _ cs _ (λ _ _. ⊤) (λ _ _ _. tt) two.0.0), subst (λ r. IsIn r cs (λ _ _. ⊤)) (sym t.1) (IsIn-weaker _ cs _ (λ _ _. ⊤) (λ _ _ _. tt) two.1.1)))
        (IsIn-both p cs _ _ two.0.1 two.1.0)

    is_joined : (new : List (Cell A (Member T))) → IsIn p cs (λ _ n. new ≡ joined n.prev.ptr n.next.ptr cs) → new ≡ joined cut.1 cut.2 cs
    is_joined new w = let x = had p cs _ (IsIn-both p cs _ _ w (IsIn-both p cs _ _ two.0.1 two.1.0)) in x.2.0 ∙ (λ i. joined (x.2.1.0 i) (x.2.1.1 i) cs)

    pub Kept-pulled : (new : List (Cell A (Member T))) → IsIn p cs (λ _ n. new ≡ joined n.prev.ptr n.next.ptr cs) → Kept new es (ring_pull p rs)
    Kept-pulled new w = subst (λ ds. Kept ds es (ring_pull p rs)) (sym (is_joined new w)) (record {
      ends_are = ends-pull p rs ∙ K.ends_are;
      tied = subst (Tied (joined cut.1 cut.2 cs)) (sym cut.5) (Tied-unlinked cs cut.0 cut.1 p cut.2 cut.3 tied);
      values = all_holds cs (joined cut.1 cut.2 cs) (ring_pull p rs) (λ l t. holds_joined cut.1 cut.2 cs l t) (all_ring_pull (λ n. IsIn n.0 cs (λ _ k. k.value ≡ Some n.1)) p rs K.values);
      bare = bare_joined cut.1 cut.2 p cs rs K.bare;
    })

    pub count-pulled : (new : List (Cell A (Member T))) → IsIn p cs (λ _ n. new ≡ joined n.prev.ptr n.next.ptr cs) → length cs ≡ length (edges rs) → length new ≡ length (edges (ring_pull p rs)) + 1
    count-pulled new w c =
        let n = ap length (is_joined new w) ∙ length-change cut.2 _ _ ∙ length-change cut.1 _ cs in
        let l = ap length cut.4 ∙ length-append cut.0 ((cut.1, p) ∷ (p, cut.2) ∷ cut.3) in let m = ap length cut.5 ∙ length-append cut.0 ((cut.1, cut.2) ∷ cut.3) in omega (arith, n, l, m, c)

    pub Loose-pulled : (new : List (Cell A (Member T))) → IsIn p cs (λ _ n. new ≡ joined n.prev.ptr n.next.ptr cs) → Loose new (ring_pull p rs) p the_value.0
    Loose-pulled new w =
        let xs = cut.0 in let a = cut.1 in let b = cut.2 in let ys = cut.3 in
        let o = subst (IsDistinct same_ptr) (map-append (λ (e : Pair). e.0) xs ((a, p) ∷ (p, b) ∷ ys)) tied.out in
        let i = subst (IsDistinct same_ptr) (map-append (λ (e : Pair). e.1) xs ((a, p) ∷ (p, b) ∷ ys)) tied.into in
        let ox = map (λ (e : Pair). e.0) xs in let oy = map (λ (e : Pair). e.0) ys in let ix = map (λ (e : Pair). e.1) xs in let iy = map (λ (e : Pair). e.1) ys in
        subst (λ ds. Loose ds (ring_pull p rs) p the_value.0) (sym (is_joined new w)) (record {
          value = value_joined a b p (Some the_value.0) cs the_value.2;
          off_out = subst (λ ds. IsOff p (map (λ (e : Pair). e.0) ds)) (sym cut.5) (subst (IsOff p) (append_assoc ox (a ∷ []) oy ∙ sym (map-append (λ (e : Pair). e.0) xs ((a, b) ∷ ys)))
              (differs (ox ++ a ∷ []) p oy (subst (IsDistinct same_ptr) (sym (append_assoc ox (a ∷ []) (p ∷ oy))) o)));
          off_into = subst (λ ds. IsOff p (map (λ (e : Pair). e.1) ds)) (sym cut.5) (subst (IsOff p) (sym (map-append (λ (e : Pair). e.1) xs ((a, b) ∷ ys))) (differs ix p (b ∷ iy) i));
        })

  module _ (cs : List (Cell A (Member T))) (es : List Place) (rs : List (Ring T)) (K : Kept cs es rs) (k : ℕ) (h : k < length (seen rs)) (p : Ptr) (v : T) (L : Loose cs rs p v) where
    tied' : let on = end_cut rs k (p, v) h in Tied cs (on.0 ++ (on.1, nth_end rs k) ∷ on.2)
    tied' = subst (Tied cs) (end_cut rs k (p, v) h).3 K.tied

    last : let on = end_cut rs k (p, v) h in Edge cs (on.1, nth_end rs k)
    last = let on = end_cut rs k (p, v) h in (all_right (Edge cs) on.0 ((on.1, nth_end rs k) ∷ on.2) tied'.edges).0

    pub loose_in : IsIn p cs (λ _ _. ⊤)
    loose_in = IsIn-weaker p cs _ (λ _ _. ⊤) (λ _ _ _. tt) L.value

    pub end_there : (s : Ptr) → s ≡ nth_end rs k → IsIn s cs (λ _ m. IsIn m.prev.ptr cs (λ _ _. ⊤))
    end_there s e = subst (λ r. IsIn r cs (λ _ m. IsIn m.prev.ptr cs (λ _ _. ⊤))) (sym e)
        (IsIn-weaker (nth_end rs k) cs _ (λ _ m. IsIn m.prev.ptr cs (λ _ _. ⊤)) (λ _ m t. subst (λ r. IsIn r cs (λ _ _. ⊤)) (sym t) (IsIn-weaker _ cs _ (λ _ _. ⊤) (λ _ _ _. tt) last.0)) last.1)

    is_inserted : (s : Ptr) (new : List (Cell A (Member T))) → s ≡ nth_end rs k → IsIn s cs (λ _ m. new ≡ inserted m.prev.ptr p s cs) → new ≡ inserted (end_cut rs k (p, v) h).1 p (nth_end rs k) cs
    is_inserted s new e w =
        let x = had _ cs _ (IsIn-both (nth_end rs k) cs _ _ (subst (λ r. IsIn r cs (λ _ m. new ≡ inserted m.prev.ptr p r cs)) e w) last.1) in
        x.2.0 ∙ ap (λ r. inserted r p (nth_end rs k) cs) x.2.1

    pub Kept-linked : (s : Ptr) (new : List (Cell A (Member T))) → s ≡ nth_end rs k → IsIn s cs (λ _ m. new ≡ inserted m.prev.ptr p s cs) → Kept new es (ring_push k (p, v) rs)
    Kept-linked s new e w =
        let on = end_cut rs k (p, v) h in let s' = nth_end rs k in
        let off_o = subst (λ xs. IsOff p (map (λ (x : Pair). x.0) xs)) on.3 L.off_out in let off_i = subst (λ xs. IsOff p (map (λ (x : Pair). x.1) xs)) on.3 L.off_into in
        let t = Tied-linked cs on.0 on.1 p s' on.2 loose_in off_o off_i tied' in
        subst (λ ds. Kept ds es (ring_push k (p, v) rs)) (sym (is_inserted s new e w)) (record {
          ends_are = ends-push k (p, v) rs ∙ K.ends_are;
          tied = subst (Tied (inserted on.1 p s' cs)) (sym on.4) t;
          values = all_push (λ m. IsIn m.0 (inserted on.1 p s' cs) (λ _ q. q.value ≡ Some m.1)) k (p, v) rs (value_past on.1 p s' p (Some v) cs L.value)
              (all_holds cs (inserted on.1 p s' cs) rs (λ l t. holds_past on.1 p s' cs l t) K.values);
          bare = bare_push (inserted on.1 p s' cs) k (p, v) rs (bare_past on.1 p s' cs rs K.bare);
        })

    pub count-linked : (s : Ptr) (new : List (Cell A (Member T))) → s ≡ nth_end rs k → IsIn s cs (λ _ m. new ≡ inserted m.prev.ptr p s cs) → length cs ≡ length (edges rs) + 1 → length new ≡ length (edges (ring_push k (p, v) rs))
    count-linked s new e w c =
        let on = length-push rs k (p, v) h in let l = ap length (is_inserted s new e w) ∙ length-inserted _ p (nth_end rs k) cs in omega (arith, l, on, c)

  -- the whole move
  module _ (cs : List (Cell A (Member T))) (es : List Place) (rs : List (Ring T)) (K : Kept cs es rs) (p : Ptr) (h : has_node p (seen rs) ≡ true) (k : ℕ) (low : k < length (seen rs))
      (d : Place) (at_k : d ≡ slice_index_or es k d) (mid : List (Cell A (Member T))) (w : IsIn p cs (λ _ n. mid ≡ joined n.prev.ptr n.next.ptr cs)) where
    abbrev pub rs' : List (Ring T)
    rs' = ring_pull p rs

    abbrev pub v' : T
    v' = (the_value cs es rs K p h).0

    pub K' : Kept mid es rs'
    K' = Kept-pulled cs es rs K p h mid w

    pub L' : Loose mid rs' p v'
    L' = Loose-pulled cs es rs K p h mid w

    pub s' : d.ptr ≡ nth_end rs' k
    s' = ap (λ q. q.ptr) at_k ∙ end_is rs' es k d K'.ends_are (len_pull p rs k low)

    pub move_at : IsIn p mid (λ _ _. ⊤)
    move_at = loose_in mid es rs' K' k (len_pull p rs k low) p v' L'

    pub move_end : IsIn d.ptr mid (λ _ m. IsIn m.prev.ptr mid (λ _ _. ⊤))
    move_end = end_there mid es rs' K' k (len_pull p rs k low) p v' L' d.ptr s'

    pub move_sound : length cs ≡ length (edges rs) → (new : List (Cell A (Member T))) → IsIn d.ptr mid (λ _ m. new ≡ inserted m.prev.ptr p d.ptr mid) → Sound new es (ring_push k (p, v') rs')
    move_sound c new w' = record {
      kept = Kept-linked mid es rs' K' k (len_pull p rs k low) p v' L' d.ptr new s' w';
      count = count-linked mid es rs' K' k (len_pull p rs k low) p v' L' d.ptr new s' w' (count-pulled cs es rs K p h mid w c);
    }
