-- A node leaves its ring, and comes into one.
use Rattle.std.proofs.Common.{◌≡◌, true, false, List, [], ◌∷◌, ◌++◌, map, refl, sym, ◌∙◌, subst, append_assoc, map-id}
use mathlib.Core.Bool.{Bool}
use Rattle.std.specs.Prelude.{⊤}
use Rattle.std.specs.List.{AllByRecursion, IsDistinct}
use Rattle.std.proofs.lemmas.List.{map-append}
use denote.RawPtr.{Ptr}
use Rattle.link_lists.specs.Places.{same_ptr}
use Rattle.link_lists.specs.Cells.{Cell, IsIn}
use Rattle.link_lists.specs.Rings.{Pair, Edge, Tied}
use Rattle.link_lists.specs.Links.{next_to, link_to, joined, inserted}
use Rattle.link_lists.specs.declared.member.Member.{Member}
use Rattle.link_lists.proofs.Memory.{same_ptr_refl, same_ptr_eq}
use Rattle.link_lists.proofs.Changes.{IsIn-changed, IsIn-other, IsIn-kept, IsIn-weaker}
use Rattle.link_lists.proofs.Splits.{all_left, all_right, all_both, distinct_without, distinct_differs, distinct_with}

alike : (x y : Bool) → (x ≡ true → y ≡ true) → (y ≡ true → x ≡ true) → x ≡ y
alike true y f g = sym (f refl)
alike false true f g = g refl
alike false false f g = refl

pub same_ptr_symm : (p q : Ptr) → same_ptr p q ≡ same_ptr q p
same_ptr_symm p q = alike (same_ptr p q) (same_ptr q p)
    (λ e. subst (λ r. same_ptr r p ≡ true) (same_ptr_eq p q e) (same_ptr_refl p)) (λ e. subst (λ r. same_ptr r q ≡ true) (same_ptr_eq q p e) (same_ptr_refl q))

flip : (p q : Ptr) → same_ptr p q ≡ false → same_ptr q p ≡ false
flip p q e = same_ptr_symm q p ∙ e

-- no place of the list is p
abbrev pub IsOff : Ptr → List Ptr → Type 0
IsOff p = AllByRecursion (λ q. same_ptr p q ≡ false)

mapped : (ps : List Ptr) → IsDistinct same_ptr ps → IsDistinct same_ptr (map (λ p. p) ps)
mapped ps = subst (IsDistinct same_ptr) (sym (map-id ps))

unmapped : (ps : List Ptr) → IsDistinct same_ptr (map (λ p. p) ps) → IsDistinct same_ptr ps
unmapped ps = subst (IsDistinct same_ptr) (map-id ps)

without : (xs : List Ptr) (p : Ptr) (ys : List Ptr) → IsDistinct same_ptr (xs ++ p ∷ ys) → IsDistinct same_ptr (xs ++ ys)
without xs p ys d = unmapped (xs ++ ys) (distinct_without (λ q. q) same_ptr xs p ys (mapped (xs ++ p ∷ ys) d))

pub differs : (xs : List Ptr) (p : Ptr) (ys : List Ptr) → IsDistinct same_ptr (xs ++ p ∷ ys) → IsOff p (xs ++ ys)
differs xs p ys d = distinct_differs (λ q. q) same_ptr same_ptr_symm xs p ys (mapped (xs ++ p ∷ ys) d)

pub with_one : (xs : List Ptr) (p : Ptr) (ys : List Ptr) → IsOff p (xs ++ ys) → IsDistinct same_ptr (xs ++ ys) → IsDistinct same_ptr (xs ++ p ∷ ys)
with_one xs p ys h d = unmapped (xs ++ p ∷ ys) (distinct_with (λ q. q) same_ptr same_ptr_symm xs p ys h (mapped (xs ++ ys) d))

abbrev outs : List Pair → List Ptr
outs = map (λ e. e.0)

abbrev ins : List Pair → List Ptr
ins = map (λ e. e.1)

module _ {A T : Type 0} (cs : List (Cell A (Member T))) where
  edge_kept : (a b : Ptr) (e : Pair) → same_ptr a e.0 ≡ false → same_ptr b e.1 ≡ false → Edge cs e → Edge (joined a b cs) e
  edge_kept a b e n m h = (
    IsIn-kept e.0 b (λ k. record k { prev = record { ptr = a } }) (next_to a b cs) (λ _ k. k.next.ptr ≡ e.1) (λ _ _ t. t)
        (IsIn-other e.0 a (λ k. record k { next = record { ptr = b } }) cs (λ _ k. k.next.ptr ≡ e.1) (flip a e.0 n) h.0),
    IsIn-other e.1 b (λ k. record k { prev = record { ptr = a } }) (next_to a b cs) (λ _ k. k.prev.ptr ≡ e.0) (flip b e.1 m)
        (IsIn-kept e.1 a (λ k. record k { next = record { ptr = b } }) cs (λ _ k. k.prev.ptr ≡ e.0) (λ _ _ t. t) h.1),
  )

  edges_kept : (a b : Ptr) (es : List Pair) → IsOff a (outs es) → IsOff b (ins es) → AllByRecursion (Edge cs) es → AllByRecursion (Edge (joined a b cs)) es
  edges_kept a b [] n m h = tt
  edges_kept a b (e ∷ es) n m h = (edge_kept a b e n.0 m.0 h.0, edges_kept a b es n.1 m.1 h.1)

  edge_joined : (a p b : Ptr) → Edge cs (a, p) → Edge cs (p, b) → Edge (joined a b cs) (a, b)
  edge_joined a p b h k = (
    IsIn-kept a b (λ n. record n { prev = record { ptr = a } }) (next_to a b cs) (λ _ n. n.next.ptr ≡ b) (λ _ _ t. t)
        (IsIn-changed a (λ n. record n { next = record { ptr = b } }) cs (λ _ n. n.next.ptr ≡ b) (IsIn-weaker a cs _ (λ _ n. b ≡ b) (λ _ _ _. refl) h.0)),
    IsIn-changed b (λ n. record n { prev = record { ptr = a } }) (next_to a b cs) (λ _ n. n.prev.ptr ≡ a)
        (IsIn-kept b a (λ n. record n { next = record { ptr = b } }) cs (λ _ n. a ≡ a) (λ _ _ t. t) (IsIn-weaker b cs _ (λ _ n. a ≡ a) (λ _ _ _. refl) k.1)),
  )

  pub Tied-unlinked : (xs : List Pair) (a p b : Ptr) (ys : List Pair) → Tied cs (xs ++ (a, p) ∷ (p, b) ∷ ys) → Tied (joined a b cs) (xs ++ (a, b) ∷ ys)
  Tied-unlinked xs a p b ys t =
      let E = Edge cs in
      let o = subst (IsDistinct same_ptr) (map-append (λ (e : Pair). e.0) xs ((a, p) ∷ (p, b) ∷ ys)) t.out in
      let i = subst (IsDistinct same_ptr) (map-append (λ (e : Pair). e.1) xs ((a, p) ∷ (p, b) ∷ ys)) t.into in
      let i' = subst (IsDistinct same_ptr) (sym (append_assoc (ins xs) (p ∷ []) (b ∷ ins ys))) i in
      let off_a = differs (outs xs) a (p ∷ outs ys) o in
      let off_b = subst (IsOff b) (append_assoc (ins xs) (p ∷ []) (ins ys)) (differs (ins xs ++ p ∷ []) b (ins ys) i') in
      let rest = all_right E xs ((a, p) ∷ (p, b) ∷ ys) t.edges in
      let left = edges_kept a b xs (all_left (λ q. same_ptr a q ≡ false) (outs xs) (p ∷ outs ys) off_a) (all_left (λ q. same_ptr b q ≡ false) (ins xs) (p ∷ ins ys) off_b) (all_left E xs ((a, p) ∷ (p, b) ∷ ys) t.edges) in
      let right = edges_kept a b ys (all_right (λ q. same_ptr a q ≡ false) (outs xs) (p ∷ outs ys) off_a).1 (all_right (λ q. same_ptr b q ≡ false) (ins xs) (p ∷ ins ys) off_b).1 rest.1.1 in
      record {
        edges = all_both (Edge (joined a b cs)) xs ((a, b) ∷ ys) left (edge_joined a p b rest.0 rest.1.0, right);
        out = subst (IsDistinct same_ptr) (append_assoc (outs xs) (a ∷ []) (outs ys) ∙ sym (map-append (λ (e : Pair). e.0) xs ((a, b) ∷ ys)))
            (without (outs xs ++ a ∷ []) p (outs ys) (subst (IsDistinct same_ptr) (sym (append_assoc (outs xs) (a ∷ []) (p ∷ outs ys))) o));
        into = subst (IsDistinct same_ptr) (sym (map-append (λ (e : Pair). e.1) xs ((a, b) ∷ ys))) (without (ins xs) p (b ∷ ins ys) i);
      }

  abbrev Ins : Ptr → Ptr → Ptr → List (Cell A (Member T))
  Ins a p b = inserted a p b cs

  edge_past : (a p b : Ptr) (e : Pair) → same_ptr a e.0 ≡ false → same_ptr p e.0 ≡ false → same_ptr b e.1 ≡ false → same_ptr p e.1 ≡ false → Edge cs e → Edge (Ins a p b) e
  edge_past a p b e n n' m m' h = (
    IsIn-kept e.0 b (λ k. record k { prev = record { ptr = p } }) (link_to p a b (next_to a p cs)) (λ _ k. k.next.ptr ≡ e.1) (λ _ _ t. t)
        (IsIn-other e.0 p (λ k. record k { prev = record { ptr = a }; next = record { ptr = b } }) (next_to a p cs) (λ _ k. k.next.ptr ≡ e.1) (flip p e.0 n')
        (IsIn-other e.0 a (λ k. record k { next = record { ptr = p } }) cs (λ _ k. k.next.ptr ≡ e.1) (flip a e.0 n) h.0)),
    IsIn-other e.1 b (λ k. record k { prev = record { ptr = p } }) (link_to p a b (next_to a p cs)) (λ _ k. k.prev.ptr ≡ e.0) (flip b e.1 m)
        (IsIn-other e.1 p (λ k. record k { prev = record { ptr = a }; next = record { ptr = b } }) (next_to a p cs) (λ _ k. k.prev.ptr ≡ e.0) (flip p e.1 m')
        (IsIn-kept e.1 a (λ k. record k { next = record { ptr = p } }) cs (λ _ k. k.prev.ptr ≡ e.0) (λ _ _ t. t) h.1)),
  )

  edges_past : (a p b : Ptr) (es : List Pair) → IsOff a (outs es) → IsOff p (outs es) → IsOff b (ins es) → IsOff p (ins es) → AllByRecursion (Edge cs) es → AllByRecursion (Edge (Ins a p b)) es
  edges_past a p b [] n n' m m' h = tt
  edges_past a p b (e ∷ es) n n' m m' h = (edge_past a p b e n.0 n'.0 m.0 m'.0 h.0, edges_past a p b es n.1 n'.1 m.1 m'.1 h.1)

  edge_in : (a p b : Ptr) → same_ptr p a ≡ false → same_ptr p b ≡ false → IsIn p cs (λ _ _. ⊤) → Edge cs (a, b) → Edge (Ins a p b) (a, p)
  edge_in a p b n m h k = (
    IsIn-kept a b (λ k. record k { prev = record { ptr = p } }) (link_to p a b (next_to a p cs)) (λ _ k. k.next.ptr ≡ p) (λ _ _ t. t)
        (IsIn-other a p (λ k. record k { prev = record { ptr = a }; next = record { ptr = b } }) (next_to a p cs) (λ _ k. k.next.ptr ≡ p) (flip p a n)
        (IsIn-changed a (λ k. record k { next = record { ptr = p } }) cs (λ _ k. k.next.ptr ≡ p) (IsIn-weaker a cs _ (λ _ _. p ≡ p) (λ _ _ _. refl) k.0))),
    IsIn-other p b (λ k. record k { prev = record { ptr = p } }) (link_to p a b (next_to a p cs)) (λ _ k. k.prev.ptr ≡ a) m
        (IsIn-changed p (λ k. record k { prev = record { ptr = a }; next = record { ptr = b } }) (next_to a p cs) (λ _ k. k.prev.ptr ≡ a)
        (IsIn-kept p a (λ k. record k { next = record { ptr = p } }) cs (λ _ _. a ≡ a) (λ _ _ t. t) (IsIn-weaker p cs _ (λ _ _. a ≡ a) (λ _ _ _. refl) h))),
  )

  edge_out : (a p b : Ptr) → IsIn p cs (λ _ _. ⊤) → Edge cs (a, b) → Edge (Ins a p b) (p, b)
  edge_out a p b h k = (
    IsIn-kept p b (λ k. record k { prev = record { ptr = p } }) (link_to p a b (next_to a p cs)) (λ _ k. k.next.ptr ≡ b) (λ _ _ t. t)
        (IsIn-changed p (λ k. record k { prev = record { ptr = a }; next = record { ptr = b } }) (next_to a p cs) (λ _ k. k.next.ptr ≡ b)
        (IsIn-kept p a (λ k. record k { next = record { ptr = p } }) cs (λ _ _. b ≡ b) (λ _ _ t. t) (IsIn-weaker p cs _ (λ _ _. b ≡ b) (λ _ _ _. refl) h))),
    IsIn-changed b (λ k. record k { prev = record { ptr = p } }) (link_to p a b (next_to a p cs)) (λ _ k. k.prev.ptr ≡ p)
        (IsIn-kept b p (λ k. record k { prev = record { ptr = a }; next = record { ptr = b } }) (next_to a p cs) (λ _ _. p ≡ p) (λ _ _ t. t)
        (IsIn-kept b a (λ k. record k { next = record { ptr = p } }) cs (λ _ _. p ≡ p) (λ _ _ t. t) (IsIn-weaker b cs _ (λ _ _. p ≡ p) (λ _ _ _. refl) k.1))),
  )

  pub Tied-linked : (xs : List Pair) (a p b : Ptr) (ys : List Pair) → IsIn p cs (λ _ _. ⊤) → IsOff p (map (λ e. e.0) (xs ++ (a, b) ∷ ys)) → IsOff p (map (λ e. e.1) (xs ++ (a, b) ∷ ys))
      → Tied cs (xs ++ (a, b) ∷ ys) → Tied (inserted a p b cs) (xs ++ (a, p) ∷ (p, b) ∷ ys)
  Tied-linked xs a p b ys h fo fi t =
      let E = Edge cs in let off = λ (q r : Ptr). same_ptr q r ≡ false in
      let mo = map-append (λ (e : Pair). e.0) xs ((a, b) ∷ ys) in let mi = map-append (λ (e : Pair). e.1) xs ((a, b) ∷ ys) in
      let o = subst (IsDistinct same_ptr) mo t.out in let i = subst (IsDistinct same_ptr) mi t.into in
      let po = subst (IsOff p) mo fo in let pi = subst (IsOff p) mi fi in
      let po_l = all_left (off p) (outs xs) (a ∷ outs ys) po in let po_r = all_right (off p) (outs xs) (a ∷ outs ys) po in
      let pi_l = all_left (off p) (ins xs) (b ∷ ins ys) pi in let pi_r = all_right (off p) (ins xs) (b ∷ ins ys) pi in
      let ao = differs (outs xs) a (outs ys) o in let bi = differs (ins xs) b (ins ys) i in
      let rest = all_right E xs ((a, b) ∷ ys) t.edges in
      let left = edges_past a p b xs (all_left (off a) (outs xs) (outs ys) ao) po_l (all_left (off b) (ins xs) (ins ys) bi) pi_l (all_left E xs ((a, b) ∷ ys) t.edges) in
      let right = edges_past a p b ys (all_right (off a) (outs xs) (outs ys) ao) po_r.1 (all_right (off b) (ins xs) (ins ys) bi) pi_r.1 rest.1 in
      record {
        edges = all_both (Edge (Ins a p b)) xs ((a, p) ∷ (p, b) ∷ ys) left (edge_in a p b po_r.0 pi_r.0 h rest.0, (edge_out a p b h rest.0, right));
        out = subst (IsDistinct same_ptr) (append_assoc (outs xs) (a ∷ []) (p ∷ outs ys) ∙ sym (map-append (λ (e : Pair). e.0) xs ((a, p) ∷ (p, b) ∷ ys)))
            (with_one (outs xs ++ a ∷ []) p (outs ys) (subst (IsOff p) (sym (append_assoc (outs xs) (a ∷ []) (outs ys))) po) (subst (IsDistinct same_ptr) (sym (append_assoc (outs xs) (a ∷ []) (outs ys))) o));
        into = subst (IsDistinct same_ptr) (sym (map-append (λ (e : Pair). e.1) xs ((a, p) ∷ (p, b) ∷ ys))) (with_one (ins xs) p (b ∷ ins ys) pi i);
      }
