-- The last ring, which has no node, is no more.
use Rattle.std.proofs.Common.{◌≡◌, ℕ, zero, suc, List, [], ◌∷◌, ◌++◌, map, length, refl, sym, ap, ◌∙◌, ◌+◌, subst, append-nil, length-append, arith}
use Rattle.std.specs.Prelude.{None}
use Rattle.std.specs.List.{AllByRecursion, IsDistinct}
use Rattle.std.proofs.lemmas.List.{map-append}
use denote.RawPtr.{Ptr}
use Rattle.link_lists.specs.Places.{same_ptr}
use Rattle.link_lists.specs.Cells.{Cell, erase, IsIn}
use Rattle.link_lists.specs.Notes.{Ring, seen, ring_front}
use Rattle.link_lists.specs.Rings.{Pair, Edge}
use Rattle.link_lists.specs.Kept.{edges, Holds, Kept, Sound}
use Rattle.link_lists.specs.Seen.{emptied}
use Rattle.link_lists.specs.declared.member.Member.{Member}
use Rattle.link_lists.specs.declared.heap.Place.{Place}
use Rattle.link_lists.proofs.Edges.{IsOff, differs}
use Rattle.link_lists.proofs.Splits.{cons_head, cons_tail, nil_ne_cut, all_left, all_right, distinct_left}
use Rattle.link_lists.proofs.Pushed.{nth_end}
use Rattle.link_lists.proofs.Fronts.{ends_len}
use Rattle.link_lists.proofs.Opened.{edges-snoc}
use Rattle.link_lists.proofs.Beside.{Kept-erased, length-erase}

module _ {X : Type 0} where
  pub snoc_inj : (xs ys : List X) (x y : X) → xs ++ x ∷ [] ≡ ys ++ y ∷ [] → (xs ≡ ys) × (x ≡ y)
  snoc_inj [] [] x y e = (refl, cons_head x y [] [] e)
  snoc_inj [] (z ∷ ys) x y e = absurd (nil_ne_cut ys y [] (cons_tail x z [] (ys ++ y ∷ []) e))
  snoc_inj (z ∷ xs) [] x y e = absurd (nil_ne_cut xs x [] (sym (cons_tail z y (xs ++ x ∷ []) [] e)))
  snoc_inj (z ∷ xs) (w ∷ ys) x y e =
      let on = snoc_inj xs ys x y (cons_tail z w (xs ++ x ∷ []) (ys ++ y ∷ []) e) in let first = cons_head z w (xs ++ x ∷ []) (ys ++ y ∷ []) e in (λ i. first i ∷ on.0 i, on.1)

module _ {T : Type 0} where
  no_more : (k : ℕ) (ls : List (List (Ptr × T))) → [] ≡ emptied k ls → length ls ≡ suc k → ⊥
  unfolding emptied
  no_more k [] e h = omega arith
  no_more zero (l ∷ ls) e h = cc
  no_more (suc k) (l ∷ ls) e h = cc

  one_more : (l : List (Ptr × T)) (ms ls : List (List (Ptr × T))) → l ∷ ms ≡ ls → length ls ≡ 0 → ⊥
  one_more l ms [] e h = cc
  one_more l ms (m ∷ ls) e h = omega arith

  pub cut_last : (rs : List (Ring T)) (k : ℕ) (ls : List (List (Ptr × T))) → seen rs ≡ emptied k ls → length ls ≡ suc k → rs ≡ ring_front rs ++ (nth_end rs k, []) ∷ []
  unfolding emptied ring_front nth_end
  cut_last [] k ls e h = absurd (no_more k ls e h)
  cut_last (r ∷ rs) k [] e h = absurd (omega arith)
  cut_last (r ∷ []) zero (l ∷ ls) e h = λ i. (r.0, cons_head r.1 [] [] ls e i) ∷ []
  cut_last (r ∷ []) (suc k) (l ∷ ls) e h = absurd (no_more k ls (cons_tail r.1 l [] (emptied k ls) e) (omega arith))
  cut_last (r ∷ s ∷ rs) zero (l ∷ ls) e h = absurd (one_more s.1 (seen rs) ls (cons_tail r.1 [] (s.1 ∷ seen rs) ls e) (omega arith))
  cut_last (r ∷ s ∷ rs) (suc k) (l ∷ ls) e h = ap (λ qs. r ∷ qs) (cut_last (s ∷ rs) k ls (cons_tail r.1 l (s.1 ∷ seen rs) (emptied k ls) e) (omega arith))

  pub length-emptied : (k : ℕ) (ls : List (List (Ptr × T))) → length (emptied k ls) ≡ length ls
  unfolding emptied
  length-emptied k [] = refl
  length-emptied zero (l ∷ ls) = refl
  length-emptied (suc k) (l ∷ ls) = let on = length-emptied k ls in omega arith

  pub length-ring_front : (rs : List (Ring T)) (p : Ptr) → rs ≡ ring_front rs ++ (p, []) ∷ [] → length (seen (ring_front rs)) + 1 ≡ length (seen rs)
  length-ring_front rs p e = let l = ap length (ap seen e ∙ map-append (λ (r : Ring T). r.1) (ring_front rs) ((p, []) ∷ [])) ∙ length-append (seen (ring_front rs)) ([] ∷ []) in omega (arith, l)

module _ {A T : Type 0} (cs : List (Cell A (Member T))) (es : List Place) (q : Place) (rs : List (Ring T)) (p : Ptr) (S : Sound cs (es ++ q ∷ []) (rs ++ (p, []) ∷ [])) where
  pub last_end : q.ptr ≡ p
  last_end = sym (snoc_inj (map (λ (r : Ring T). r.0) rs) (map (λ (e : Place). e.ptr) es) p q.ptr
      (sym (map-append (λ (r : Ring T). r.0) rs ((p, []) ∷ [])) ∙ S.kept.ends_are ∙ map-append (λ (e : Place). e.ptr) es (q ∷ []))).1

  rest_ends : map (λ (r : Ring T). r.0) rs ≡ map (λ (e : Place). e.ptr) es
  rest_ends = (snoc_inj (map (λ (r : Ring T). r.0) rs) (map (λ (e : Place). e.ptr) es) p q.ptr
      (sym (map-append (λ (r : Ring T). r.0) rs ((p, []) ∷ [])) ∙ S.kept.ends_are ∙ map-append (λ (e : Place). e.ptr) es (q ∷ []))).0

  pub last_in : IsIn p cs (λ _ m. m.value ≡ None)
  last_in = (all_right (λ (r : Ring T). IsIn r.0 cs (λ _ m. m.value ≡ None)) rs ((p, []) ∷ []) S.kept.bare).0

  outs : IsDistinct same_ptr (map (λ (e : Pair). e.0) (edges rs) ++ p ∷ [])
  outs = subst (IsDistinct same_ptr) (map-append (λ (e : Pair). e.0) (edges rs) ((p, p) ∷ [])) (subst (λ es. IsDistinct same_ptr (map (λ (e : Pair). e.0) es)) (edges-snoc p rs) S.kept.tied.out)

  intos : IsDistinct same_ptr (map (λ (e : Pair). e.1) (edges rs) ++ p ∷ [])
  intos = subst (IsDistinct same_ptr) (map-append (λ (e : Pair). e.1) (edges rs) ((p, p) ∷ [])) (subst (λ es. IsDistinct same_ptr (map (λ (e : Pair). e.1) es)) (edges-snoc p rs) S.kept.tied.into)

  rest : Kept cs es rs
  rest = record {
    ends_are = rest_ends;
    tied = record {
      edges = all_left (Edge cs) (edges rs) ((p, p) ∷ []) (subst (AllByRecursion (Edge cs)) (edges-snoc p rs) S.kept.tied.edges);
      out = distinct_left same_ptr (map (λ (e : Pair). e.0) (edges rs)) (p ∷ []) outs;
      into = distinct_left same_ptr (map (λ (e : Pair). e.1) (edges rs)) (p ∷ []) intos;
    };
    values = all_left (λ (r : Ring T). Holds cs r.1) rs ((p, []) ∷ []) S.kept.values;
    bare = all_left (λ (r : Ring T). IsIn r.0 cs (λ _ m. m.value ≡ None)) rs ((p, []) ∷ []) S.kept.bare;
  }

  pub Sound-shut : Sound (erase p cs) es rs
  Sound-shut =
      let os = map (λ (e : Pair). e.0) (edges rs) in let is = map (λ (e : Pair). e.1) (edges rs) in
      record {
        kept = Kept-erased cs es rs p (subst (IsOff p) (append-nil os) (differs os p [] outs)) (subst (IsOff p) (append-nil is) (differs is p [] intos)) rest;
        count =
            let c = S.count in let l = length-erase p cs _ last_in in let m = ap length (edges-snoc p rs) ∙ length-append (edges rs) ((p, p) ∷ []) in omega (arith, c, l, m);
      }

-- the last of the rings, and the last of the ends
module _ {A T : Type 0} (cs : List (Cell A (Member T))) (es : List Place) (rs : List (Ring T)) (S : Sound cs es rs) (k : ℕ) (ls : List (List (Ptr × T))) (e : seen rs ≡ emptied k ls) (h : length ls ≡ suc k) where
  pub how_many : length es ≡ suc k
  how_many = sym (ends_len rs es S.kept.ends_are) ∙ ap length e ∙ length-emptied k ls ∙ h

  pub one_fewer : length (seen (ring_front rs)) + 1 ≡ length ls
  one_fewer = length-ring_front rs (nth_end rs k) (cut_last rs k ls e h) ∙ ap length e ∙ length-emptied k ls

  module _ (front : List Place) (q : Place) (at : es ≡ front ++ q ∷ []) where
    split : Sound cs (front ++ q ∷ []) (ring_front rs ++ (nth_end rs k, []) ∷ [])
    split = subst (λ fs. Sound cs fs (ring_front rs ++ (nth_end rs k, []) ∷ [])) at (subst (Sound cs es) (cut_last rs k ls e h) S)

    pub end_there : IsIn q.ptr cs (λ _ m. m.value ≡ None)
    end_there = subst (λ p. IsIn p cs (λ _ m. m.value ≡ None)) (sym (last_end cs front q (ring_front rs) (nth_end rs k) split)) (last_in cs front q (ring_front rs) (nth_end rs k) split)

    pub Sound-less : Sound (erase q.ptr cs) front (ring_front rs)
    Sound-less = subst (λ p. Sound (erase p cs) front (ring_front rs)) (sym (last_end cs front q (ring_front rs) (nth_end rs k) split)) (Sound-shut cs front q (ring_front rs) (nth_end rs k) split)

-- where there are no rings there is nothing
pub nothing_left : {A T : Type 0} (cs : List (Cell A (Member T))) (es : List Place) (rs : List (Ring T)) → Sound cs es rs → seen rs ≡ [] → cs ≡ []
unfolding edges
nothing_left [] es rs S e = refl
nothing_left (c ∷ cs) es [] S e = absurd (let n = S.count in omega (arith, n))
nothing_left (c ∷ cs) es (r ∷ rs) S e = cc
