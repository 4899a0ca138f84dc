-- A ring with no node comes as the last.
use Rattle.std.proofs.Common.{◌≡◌, List, [], ◌∷◌, ◌++◌, map, length, refl, sym, ap, ◌∙◌, subst, append_assoc, append-nil, length-append, arith}
use Rattle.std.specs.Prelude.{None}
use Rattle.std.specs.List.{AllByRecursion, IsDistinct}
use Rattle.std.proofs.lemmas.List.{map-append}
use denote.RawPtr.{Ptr}
use Rattle.link_lists.specs.Places.{same_ptr}
use Rattle.link_lists.specs.Cells.{Cell, erase, IsIn, IsFree}
use Rattle.link_lists.specs.Notes.{Ring}
use Rattle.link_lists.specs.Rings.{Pair, Edge, Tied, edges_of}
use Rattle.link_lists.specs.Links.{link_to}
use Rattle.link_lists.specs.Kept.{ids, edges, Holds, Kept, Sound}
use Rattle.link_lists.specs.declared.member.Member.{Member}
use Rattle.link_lists.specs.declared.heap.Place.{Place}
use Rattle.link_lists.proofs.Memory.{IsIn-of, find-here, erase-here, same_ptr_refl}
use Rattle.link_lists.proofs.Changes.{IsIn-changed, IsIn-other, length-change}
use Rattle.link_lists.proofs.Edges.{IsOff, same_ptr_symm, with_one}
use Rattle.link_lists.proofs.Splits.{all_both}
use Rattle.link_lists.proofs.Pushed.{free_differs, free_off, more}

pub edges-snoc : {T : Type 0} (p : Ptr) (rs : List (Ring T)) → edges (rs ++ (p, []) ∷ []) ≡ edges rs ++ (p, p) ∷ []
unfolding edges edges_of
edges-snoc p [] = refl
edges-snoc p (r ∷ rs) = ap (λ es. edges_of r.0 (ids r.1) r.0 ++ es) (edges-snoc p rs) ∙ sym (append_assoc (edges_of r.0 (ids r.1) r.0) (edges rs) ((p, p) ∷ []))

module _ {A T : Type 0} (cs : List (Cell A (Member T))) (p : Ptr) (a : A) (n : Member T) (f : IsFree p cs) where
  abbrev pub one_more : List (Cell A (Member T))
  one_more = (p, (a, n)) ∷ cs

  pub in_more : (P : A → Member T → Type 0) → P a n → IsIn p one_more P
  in_more P h = IsIn-of p one_more (a, n) P (find-here p (p, (a, n)) cs (same_ptr_refl p)) h

  pub back_again : erase p one_more ≡ cs
  back_again = erase-here p (p, (a, n)) cs (same_ptr_refl p)

  abbrev pub looped : List (Cell A (Member T))
  looped = link_to p p p one_more

  past : (q : Ptr) (P : A → Member T → Type 0) → IsIn q cs P → IsIn q looped P
  past q P h = IsIn-other q p (λ k. record k { prev = record { ptr = p }; next = record { ptr = p } }) one_more P (same_ptr_symm q p ∙ free_differs p q cs P f h) (more p q (a, n) cs P f h)

  edges_past : (es : List Pair) → AllByRecursion (Edge cs) es → AllByRecursion (Edge looped) es
  edges_past [] t = tt
  edges_past (e ∷ es) t = ((past e.0 _ t.0.0, past e.1 _ t.0.1), edges_past es t.1)

  holds_past' : (l : List (Ptr × T)) → Holds cs l → Holds looped l
  holds_past' [] t = tt
  holds_past' (m ∷ l) t = (past m.0 _ t.0, holds_past' l t.1)

  values_past : (rs : List (Ring T)) → AllByRecursion (λ (r : Ring T). Holds cs r.1) rs → AllByRecursion (λ (r : Ring T). Holds looped r.1) (rs ++ (p, []) ∷ [])
  values_past [] t = (tt, tt)
  values_past (r ∷ rs) t = (holds_past' r.1 t.0, values_past rs t.1)

  loop : Edge looped (p, p)
  loop = (
    IsIn-changed p (λ k. record k { prev = record { ptr = p }; next = record { ptr = p } }) one_more (λ _ k. k.next.ptr ≡ p) (in_more (λ _ _. p ≡ p) refl),
    IsIn-changed p (λ k. record k { prev = record { ptr = p }; next = record { ptr = p } }) one_more (λ _ k. k.prev.ptr ≡ p) (in_more (λ _ _. p ≡ p) refl),
  )

  bare_past' : (rs : List (Ring T)) → n.value ≡ None → AllByRecursion (λ (r : Ring T). IsIn r.0 cs (λ _ m. m.value ≡ None)) rs → AllByRecursion (λ (r : Ring T). IsIn r.0 looped (λ _ m. m.value ≡ None)) (rs ++ (p, []) ∷ [])
  bare_past' [] e t = (IsIn-changed p (λ k. record k { prev = record { ptr = p }; next = record { ptr = p } }) one_more (λ _ k. k.value ≡ None) (in_more (λ _ k. k.value ≡ None) e), tt)
  bare_past' (r ∷ rs) e t = (past r.0 _ t.0, bare_past' rs e t.1)

  pub Kept-opened : (es : List Place) (rs : List (Ring T)) → n.value ≡ None → Kept cs es rs → Kept looped (es ++ record { ptr = p } ∷ []) (rs ++ (p, []) ∷ [])
  Kept-opened es rs e K =
      let off = free_off p cs (edges rs) f K.tied.edges in
      let outs = map (λ (e : Pair). e.0) (edges rs) in let ins = map (λ (e : Pair). e.1) (edges rs) in
      record {
        ends_are = map-append (λ (r : Ring T). r.0) rs ((p, []) ∷ []) ∙ ap (λ ps. ps ++ p ∷ []) K.ends_are ∙ sym (map-append (λ (q : Place). q.ptr) es (record { ptr = p } ∷ []));
        tied = subst (Tied looped) (sym (edges-snoc p rs)) (record {
          edges = all_both (Edge looped) (edges rs) ((p, p) ∷ []) (edges_past (edges rs) K.tied.edges) (loop, tt);
          out = subst (IsDistinct same_ptr) (sym (map-append (λ (e : Pair). e.0) (edges rs) ((p, p) ∷ []))) (with_one outs p [] (subst (IsOff p) (sym (append-nil outs)) off.0) (subst (IsDistinct same_ptr) (sym (append-nil outs)) K.tied.out));
          into = subst (IsDistinct same_ptr) (sym (map-append (λ (e : Pair). e.1) (edges rs) ((p, p) ∷ []))) (with_one ins p [] (subst (IsOff p) (sym (append-nil ins)) off.1) (subst (IsDistinct same_ptr) (sym (append-nil ins)) K.tied.into));
        });
        values = values_past rs K.values;
        bare = bare_past' rs e K.bare;
      }

  pub Sound-opened : (es : List Place) (rs : List (Ring T)) → n.value ≡ None → Sound cs es rs → Sound looped (es ++ record { ptr = p } ∷ []) (rs ++ (p, []) ∷ [])
  Sound-opened es rs e S = record {
    kept = Kept-opened es rs e S.kept;
    count =
        let l = length-change p (λ k. record k { prev = record { ptr = p }; next = record { ptr = p } }) one_more in
        let m = ap length (edges-snoc p rs) ∙ length-append (edges rs) ((p, p) ∷ []) in let c = S.count in omega (arith, l, m, c);
  }

pub Sound-empty : {A T : Type 0} → Sound {A = A} {T = T} [] [] []
unfolding edges IsDistinct
Sound-empty = record { kept = record { ends_are = refl; tied = record { edges = tt; out = tt; into = tt }; values = tt; bare = tt }; count = refl }
