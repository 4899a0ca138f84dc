-- A node comes into the k-th ring as its last.
use Rattle.std.proofs.Common.{◌≡◌, ℕ, ◌<◌, zero, suc, false, List, [], ◌∷◌, ◌++◌, map, length, slice_index_or, refl, sym, ap, ◌∙◌, subst, append_assoc, length-append, ◌+◌, arith}
use Rattle.std.specs.Prelude.{⊤, Option, None, Some}
use Rattle.std.specs.List.{AllByRecursion}
use denote.RawPtr.{Ptr, null_ptr}
use Rattle.link_lists.specs.Places.{same_ptr}
use Rattle.link_lists.specs.Cells.{Cell, find, write, IsIn, IsFree}
use Rattle.link_lists.specs.Lists.{push_at}
use Rattle.link_lists.specs.Notes.{Ring, ring_push, seen}
use Rattle.link_lists.specs.Rings.{Pair, Edge, Tied, edges_of}
use Rattle.link_lists.specs.Links.{inserted, link_to, next_to}
use Rattle.link_lists.specs.Kept.{ids, edges, Holds, Kept, Sound}
use Rattle.link_lists.specs.declared.member.Member.{Member}
use Rattle.link_lists.specs.declared.heap.Place.{Place}
use Rattle.link_lists.proofs.Memory.{either, had, IsIn-of, none_some, find-here, find-there, write-here, same_ptr_refl, same_ptr_eq}
use Rattle.link_lists.proofs.Changes.{IsIn-kept, IsIn-weaker, IsIn-both, length-change}
use Rattle.link_lists.proofs.Edges.{IsOff, same_ptr_symm, Tied-linked}
use Rattle.link_lists.proofs.Splits.{cons_head, cons_tail, all_right}

-- the last edge of a ring, without and with one more node
last_edge : (a : Ptr) (ps : List Ptr) (e p : Ptr) → (xs : List Pair) × (b : Ptr) × (edges_of a ps e ≡ xs ++ (b, e) ∷ []) × (edges_of a (ps ++ p ∷ []) e ≡ xs ++ (b, p) ∷ (p, e) ∷ [])
unfolding edges_of
last_edge a [] e p = ([], a, refl, refl)
last_edge a (q ∷ ps) e p = let on = last_edge q ps e p in ((a, q) ∷ on.0, on.1, ap (λ es. (a, q) ∷ es) on.2, ap (λ es. (a, q) ∷ es) on.3)

module _ {T : Type 0} where
  unfoldable pub nth_end : List (Ring T) → ℕ → Ptr
  nth_end [] k = null_ptr
  nth_end (r ∷ rs) zero = r.0
  nth_end (r ∷ rs) (suc k) = nth_end rs k

  pub end_is : (rs : List (Ring T)) (es : List Place) (k : ℕ) (d : Place) → map (λ (r : Ring T). r.0) rs ≡ map (λ (p : Place). p.ptr) es → k < length (seen rs) → (slice_index_or es k d).ptr ≡ nth_end rs k
  unfolding nth_end
  end_is [] es k d e h = absurd (omega arith)
  end_is (r ∷ rs) [] k d e h = absurd (subst (λ (l : List Ptr). elim l as (λ _. Type 0) [ [] ↦ ⊥ | x ∷ xs ↦ Unit {0} ]) e tt)
  end_is (r ∷ rs) (p ∷ es) zero d e h = sym (cons_head r.0 p.ptr (map (λ (r : Ring T). r.0) rs) (map (λ (p : Place). p.ptr) es) e)
  end_is (r ∷ rs) (p ∷ es) (suc k) d e h = end_is rs es k d (cons_tail r.0 p.ptr (map (λ (r : Ring T). r.0) rs) (map (λ (p : Place). p.ptr) es) e) (omega arith)

  map-push : (l : List (Ptr × T)) (n : Ptr × T) → ids (l ++ n ∷ []) ≡ ids l ++ n.0 ∷ []
  map-push [] n = refl
  map-push (m ∷ l) n = ap (λ ps. m.0 ∷ ps) (map-push l n)

  pub end_cut : (rs : List (Ring T)) (k : ℕ) (n : Ptr × T) → k < length (seen rs)
      → (xs : List Pair) × (b : Ptr) × (ys : List Pair) × (edges rs ≡ xs ++ (b, nth_end rs k) ∷ ys) × (edges (ring_push k n rs) ≡ xs ++ (b, n.0) ∷ (n.0, nth_end rs k) ∷ ys)
  unfolding edges ring_push nth_end
  end_cut [] k n h = absurd (omega arith)
  end_cut (r ∷ rs) zero n h =
      let on = last_edge r.0 (ids r.1) r.0 n.0 in (
        on.0,
        on.1,
        edges rs,
        ap (λ es. es ++ edges rs) on.2 ∙ append_assoc on.0 ((on.1, r.0) ∷ []) (edges rs),
        ap (λ ps. edges_of r.0 ps r.0 ++ edges rs) (map-push r.1 n) ∙ ap (λ es. es ++ edges rs) on.3 ∙ append_assoc on.0 ((on.1, n.0) ∷ (n.0, r.0) ∷ []) (edges rs),
      )
  end_cut (r ∷ rs) (suc k) n h =
      let on = end_cut rs k n (omega arith) in let mine = edges_of r.0 (ids r.1) r.0 in (
        mine ++ on.0,
        on.1,
        on.2,
        ap (λ es. mine ++ es) on.3 ∙ sym (append_assoc mine on.0 ((on.1, nth_end rs k) ∷ on.2)),
        ap (λ es. mine ++ es) on.4 ∙ sym (append_assoc mine on.0 ((on.1, n.0) ∷ (n.0, nth_end rs k) ∷ on.2)),
      )

  pub length-push : (rs : List (Ring T)) (k : ℕ) (n : Ptr × T) → k < length (seen rs) → length (edges (ring_push k n rs)) ≡ length (edges rs) + 1
  length-push rs k n h =
      let on = end_cut rs k n h in
      let l = ap length on.3 ∙ length-append on.0 ((on.1, nth_end rs k) ∷ on.2) in let m = ap length on.4 ∙ length-append on.0 ((on.1, n.0) ∷ (n.0, nth_end rs k) ∷ on.2) in omega (arith, l, m)

  pub seen-push : (k : ℕ) (n : Ptr × T) (rs : List (Ring T)) → seen (ring_push k n rs) ≡ push_at k n (seen rs)
  unfolding ring_push push_at
  seen-push k n [] = refl
  seen-push zero n (r ∷ rs) = refl
  seen-push (suc k) n (r ∷ rs) = ap (λ ls. r.1 ∷ ls) (seen-push k n rs)

  pub ends-push : (k : ℕ) (n : Ptr × T) (rs : List (Ring T)) → map (λ (r : Ring T). r.0) (ring_push k n rs) ≡ map (λ (r : Ring T). r.0) rs
  unfolding ring_push
  ends-push k n [] = refl
  ends-push zero n (r ∷ rs) = refl
  ends-push (suc k) n (r ∷ rs) = ap (λ ls. r.0 ∷ ls) (ends-push k n rs)

  all_snoc : (P : Ptr × T → Type 0) (l : List (Ptr × T)) (n : Ptr × T) → P n → AllByRecursion P l → AllByRecursion P (l ++ n ∷ [])
  all_snoc P [] n h t = (h, tt)
  all_snoc P (m ∷ l) n h t = (t.0, all_snoc P l n h t.1)

  pub all_push : (P : Ptr × T → Type 0) (k : ℕ) (n : Ptr × T) (rs : List (Ring T)) → P n → AllByRecursion (λ (r : Ring T). AllByRecursion P r.1) rs → AllByRecursion (λ (r : Ring T). AllByRecursion P r.1) (ring_push k n rs)
  unfolding ring_push
  all_push P k n [] h t = tt
  all_push P zero n (r ∷ rs) h t = (all_snoc P r.1 n h t.0, t.1)
  all_push P (suc k) n (r ∷ rs) h t = (t.0, all_push P k n rs h t.1)

-- the newest cell, with another value
pub written : {A V : Type 0} (p : Ptr) (a : A) (n w : V) (cs put : List (Cell A V)) → put ≡ (p, (a, n)) ∷ cs → write p w put ≡ (p, (a, w)) ∷ cs
written p a n w cs put e = ap (write p w) e ∙ write-here p w (p, (a, n)) cs (same_ptr_refl p)

module _ {A T : Type 0} where
  abbrev Bare : List (Cell A (Member T)) → List (Ring T) → Type 0
  Bare cs = AllByRecursion (λ (r : Ring T). IsIn r.0 cs (λ _ m. m.value ≡ None))

  pub free_differs : (p q : Ptr) (cs : List (Cell A (Member T))) (P : A → Member T → Type 0) → IsFree p cs → IsIn q cs P → same_ptr p q ≡ false
  free_differs p q cs P f h = let k = had q cs P h in either (same_ptr p q)
      (λ t. absurd (none_some k.0 (sym f ∙ ap (λ r. find r cs) (same_ptr_eq p q t) ∙ k.1))) (λ n. n)

  pub free_off : (p : Ptr) (cs : List (Cell A (Member T))) (es : List Pair) → IsFree p cs → AllByRecursion (Edge cs) es → IsOff p (map (λ e. e.0) es) × IsOff p (map (λ e. e.1) es)
  free_off p cs [] f t = (tt, tt)
  free_off p cs (e ∷ es) f t = let on = free_off p cs es f t.1 in ((free_differs p e.0 cs _ f t.0.0, on.0), (free_differs p e.1 cs _ f t.0.1, on.1))

  pub more : (p q : Ptr) (c : A × Member T) (cs : List (Cell A (Member T))) (P : A → Member T → Type 0) → IsFree p cs → IsIn q cs P → IsIn q ((p, c) ∷ cs) P
  more p q c cs P f h = let k = had q cs P h in
      IsIn-of q ((p, c) ∷ cs) k.0 P (find-there q (p, c) cs (same_ptr_symm q p ∙ free_differs p q cs P f h) ∙ k.1) k.2

  edges_more : (p : Ptr) (c : A × Member T) (cs : List (Cell A (Member T))) (es : List Pair) → IsFree p cs → AllByRecursion (Edge cs) es → AllByRecursion (Edge ((p, c) ∷ cs)) es
  edges_more p c cs [] f t = tt
  edges_more p c cs (e ∷ es) f t = ((more p e.0 c cs _ f t.0.0, more p e.1 c cs _ f t.0.1), edges_more p c cs es f t.1)

  holds_more : (p : Ptr) (c : A × Member T) (cs : List (Cell A (Member T))) (l : List (Ptr × T)) → IsFree p cs → Holds cs l → Holds ((p, c) ∷ cs) l
  holds_more p c cs [] f t = tt
  holds_more p c cs (n ∷ l) f t = (more p n.0 c cs _ f t.0, holds_more p c cs l f t.1)

  pub value_past : (a p b q : Ptr) (v : Option T) (cs : List (Cell A (Member T))) → IsIn q cs (λ _ k. k.value ≡ v) → IsIn q (inserted a p b cs) (λ _ k. k.value ≡ v)
  value_past a p b q v cs h =
      let P : A → Member T → Type 0 = λ _ k. k.value ≡ v in
      IsIn-kept q b (λ k. record k { prev = record { ptr = p } }) (link_to p a b (next_to a p cs)) P (λ _ _ t. t)
      (IsIn-kept q p (λ k. record k { prev = record { ptr = a }; next = record { ptr = b } }) (next_to a p cs) P (λ _ _ t. t)
      (IsIn-kept q a (λ k. record k { next = record { ptr = p } }) cs P (λ _ _ t. t) h))

  pub holds_past : (a p b : Ptr) (cs : List (Cell A (Member T))) (l : List (Ptr × T)) → Holds cs l → Holds (inserted a p b cs) l
  holds_past a p b cs [] t = tt
  holds_past a p b cs (n ∷ l) t = (value_past a p b n.0 (Some n.1) cs t.0, holds_past a p b cs l t.1)

  pub bare_past : (a p b : Ptr) (cs : List (Cell A (Member T))) (rs : List (Ring T)) → Bare cs rs → Bare (inserted a p b cs) rs
  bare_past a p b cs [] t = tt
  bare_past a p b cs (r ∷ rs) t = (value_past a p b r.0 None cs t.0, bare_past a p b cs rs t.1)

  bare_more : (p : Ptr) (c : A × Member T) (cs : List (Cell A (Member T))) (rs : List (Ring T)) → IsFree p cs → Bare cs rs → Bare ((p, c) ∷ cs) rs
  bare_more p c cs [] f t = tt
  bare_more p c cs (r ∷ rs) f t = (more p r.0 c cs _ f t.0, bare_more p c cs rs f t.1)

  pub bare_push : (cs : List (Cell A (Member T))) (k : ℕ) (n : Ptr × T) (rs : List (Ring T)) → Bare cs rs → Bare cs (ring_push k n rs)
  unfolding ring_push
  bare_push cs k n [] t = tt
  bare_push cs zero n (r ∷ rs) t = t
  bare_push cs (suc k) n (r ∷ rs) t = (t.0, bare_push cs k n rs t.1)

  pub length-inserted : (a p b : Ptr) (cs : List (Cell A (Member T))) → length (inserted a p b cs) ≡ length cs
  length-inserted a p b cs = length-change b _ _ ∙ length-change p _ _ ∙ length-change a _ cs

  pub all_holds : (cs ds : List (Cell A (Member T))) (rs : List (Ring T)) → ((l : List (Ptr × T)) → Holds cs l → Holds ds l) → AllByRecursion (λ (r : Ring T). Holds cs r.1) rs → AllByRecursion (λ (r : Ring T). Holds ds r.1) rs
  all_holds cs ds [] g t = tt
  all_holds cs ds (r ∷ rs) g t = (g r.1 t.0, all_holds cs ds rs g t.1)

  module _ (cs : List (Cell A (Member T))) (es : List Place) (rs : List (Ring T)) (K : Kept cs es rs) (k : ℕ) (h : k < length (seen rs)) (p : Ptr) (a : A) (n : Member T) (f : IsFree p cs) (v : T) (nv : n.value ≡ Some v) where
    abbrev cs' : List (Cell A (Member T))
    cs' = (p, (a, n)) ∷ cs

    pub at_in : IsIn p cs' (λ _ _. ⊤)
    at_in = IsIn-of p cs' (a, n) (λ _ _. ⊤) (find-here p (p, (a, n)) cs (same_ptr_refl p)) tt

    value_in : IsIn p cs' (λ _ m. m.value ≡ Some v)
    value_in = IsIn-of p cs' (a, n) (λ _ m. m.value ≡ Some v) (find-here p (p, (a, n)) cs (same_ptr_refl p)) nv

    tied' : let on = end_cut rs k (p, v) h in Tied cs' (on.0 ++ (on.1, nth_end rs k) ∷ on.2)
    tied' = let on = end_cut rs k (p, v) h in subst (Tied cs') on.3 (record { edges = edges_more p (a, n) cs (edges rs) f K.tied.edges; out = K.tied.out; into = K.tied.into })

    last : let on = end_cut rs k (p, v) h in Edge cs' (on.1, nth_end rs k)
    last = let on = end_cut rs k (p, v) h in (all_right (Edge cs') on.0 ((on.1, nth_end rs k) ∷ on.2) tied'.edges).0

    pub end_in : (s : Ptr) → s ≡ nth_end rs k → IsIn s cs' (λ _ m. IsIn m.prev.ptr cs' (λ _ _. ⊤))
    end_in s e = subst (λ r. IsIn r cs' (λ _ m. IsIn m.prev.ptr cs' (λ _ _. ⊤))) (sym e)
        (IsIn-weaker (nth_end rs k) cs' _ (λ _ m. IsIn m.prev.ptr cs' (λ _ _. ⊤)) (λ _ m t. subst (λ r. IsIn r cs' (λ _ _. ⊤)) (sym t) (IsIn-weaker _ cs' _ (λ _ _. ⊤) (λ _ _ _. tt) last.0)) last.1)

    is_new : (s : Ptr) (new : List (Cell A (Member T))) → s ≡ nth_end rs k → IsIn s cs' (λ _ m. new ≡ inserted m.prev.ptr p s cs') → new ≡ inserted (end_cut rs k (p, v) h).1 p (nth_end rs k) cs'
    is_new s new e w =
        let x = had _ cs' _ (IsIn-both (nth_end rs k) cs' _ _ (subst (λ r. IsIn r cs' (λ _ m. new ≡ inserted m.prev.ptr p r cs')) e w) last.1) in
        x.2.0 ∙ ap (λ r. inserted r p (nth_end rs k) cs') x.2.1

    pub Kept-pushed : (s : Ptr) (new : List (Cell A (Member T))) → s ≡ nth_end rs k → IsIn s cs' (λ _ m. new ≡ inserted m.prev.ptr p s cs') → Kept new es (ring_push k (p, v) rs)
    Kept-pushed s new e w =
        let on = end_cut rs k (p, v) h in let s' = nth_end rs k in
        let off = free_off p cs (edges rs) f K.tied.edges in
        let off_o = subst (λ xs. IsOff p (map (λ (x : Pair). x.0) xs)) on.3 off.0 in let off_i = subst (λ xs. IsOff p (map (λ (x : Pair). x.1) xs)) on.3 off.1 in
        let t = Tied-linked cs' on.0 on.1 p s' on.2 at_in off_o off_i tied' in
        subst (λ ds. Kept ds es (ring_push k (p, v) rs)) (sym (is_new s new e w)) (record {
          ends_are = ends-push k (p, v) rs ∙ K.ends_are;
          tied = subst (Tied (inserted on.1 p s' cs')) (sym on.4) t;
          values = all_push (λ m. IsIn m.0 (inserted on.1 p s' cs') (λ _ q. q.value ≡ Some m.1)) k (p, v) rs (value_past on.1 p s' p (Some v) cs' value_in)
              (all_holds cs (inserted on.1 p s' cs') rs (λ l t. holds_past on.1 p s' cs' l (holds_more p (a, n) cs l f t)) K.values);
          bare = bare_push (inserted on.1 p s' cs') k (p, v) rs (bare_past on.1 p s' cs' rs (bare_more p (a, n) cs rs f K.bare));
        })

    pub count-pushed : (s : Ptr) (new : List (Cell A (Member T))) → s ≡ nth_end rs k → IsIn s cs' (λ _ m. new ≡ inserted m.prev.ptr p s cs') → length cs ≡ length (edges rs) → length new ≡ length (edges (ring_push k (p, v) rs))
    count-pushed s new e w c =
        let on = length-push rs k (p, v) h in let l = ap length (is_new s new e w) ∙ length-inserted _ p (nth_end rs k) cs' in omega (arith, l, on, c)

    pub Sound-pushed : (s : Ptr) (new : List (Cell A (Member T))) → s ≡ nth_end rs k → IsIn s cs' (λ _ m. new ≡ inserted m.prev.ptr p s cs') → length cs ≡ length (edges rs) → Sound new es (ring_push k (p, v) rs)
    Sound-pushed s new e w c = record { kept = Kept-pushed s new e w; count = count-pushed s new e w c }
