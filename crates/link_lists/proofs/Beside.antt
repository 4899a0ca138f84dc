-- What lies at p is in no ring: it may change, or leave the heap.
use Rattle.std.proofs.Common.{◌≡◌, false, List, [], ◌∷◌, map, length, refl, sym, ap, ◌∙◌, ◌+◌, subst, arith}
use Rattle.std.specs.Prelude.{Option, None, Some, MatchOption}
use Rattle.std.specs.List.{AllByRecursion}
use Rattle.std.proofs.lemmas.List.{map-append}
use denote.RawPtr.{Ptr}
use Rattle.link_lists.specs.Places.{same_ptr}
use Rattle.link_lists.specs.Cells.{Cell, find, erase, IsIn}
use Rattle.link_lists.specs.Notes.{Ring}
use Rattle.link_lists.specs.Rings.{Pair, Edge, edges_of}
use Rattle.link_lists.specs.Links.{change}
use Rattle.link_lists.specs.Kept.{ids, edges, Holds, Kept, Sound}
use Rattle.link_lists.specs.declared.member.Member.{Member}
use Rattle.link_lists.specs.declared.heap.Place.{Place}
use Rattle.link_lists.proofs.Memory.{either, had, none_some, find-nil, find-here, find-there, erase-here, erase-there, same_ptr_eq}
use Rattle.link_lists.proofs.Changes.{IsIn-changed, IsIn-other, IsIn-weaker, length-change}
use Rattle.link_lists.proofs.Edges.{IsOff, same_ptr_symm}
use Rattle.link_lists.proofs.Splits.{all_left, all_right}
use Rattle.link_lists.proofs.Moved.{Loose}

pub head_off : (p a : Ptr) (ps : List Ptr) (e : Ptr) → IsOff p (map (λ x. x.0) (edges_of a ps e)) → same_ptr p a ≡ false
unfolding edges_of
head_off p a [] e o = o.0
head_off p a (q ∷ ps) e o = o.0

pub ring_off : {T : Type 0} (p : Ptr) (r : Ring T) (rs : List (Ring T)) → IsOff p (map (λ x. x.0) (edges (r ∷ rs))) → IsOff p (map (λ x. x.0) (edges_of r.0 (ids r.1) r.0)) × IsOff p (map (λ x. x.0) (edges rs))
unfolding edges
ring_off p r rs o =
    let es = edges_of r.0 (ids r.1) r.0 in
    let both = subst (IsOff p) (map-append (λ (e : Pair). e.0) es (edges rs)) o in let off = λ (q : Ptr). same_ptr p q ≡ false in
    (all_left off (map (λ (e : Pair). e.0) es) (map (λ (e : Pair). e.0) (edges rs)) both, all_right off (map (λ (e : Pair). e.0) es) (map (λ (e : Pair). e.0) (edges rs)) both)

-- what stands of the other places in the one heap stands in the other
module _ {A T : Type 0} (cs ds : List (Cell A (Member T))) (p : Ptr) (keeps : (q : Ptr) (P : A → Member T → Type 0) → same_ptr p q ≡ false → IsIn q cs P → IsIn q ds P) where
  edges_beside : (es : List Pair) → IsOff p (map (λ e. e.0) es) → IsOff p (map (λ e. e.1) es) → AllByRecursion (Edge cs) es → AllByRecursion (Edge ds) es
  edges_beside [] o i t = tt
  edges_beside (e ∷ es) o i t = ((keeps e.0 _ o.0 t.0.0, keeps e.1 _ i.0 t.0.1), edges_beside es o.1 i.1 t.1)

  list_beside : (a : Ptr) (l : List (Ptr × T)) (e : Ptr) → IsOff p (map (λ x. x.0) (edges_of a (ids l) e)) → Holds cs l → Holds ds l
  unfolding edges_of
  list_beside a [] e o t = tt
  list_beside a (n ∷ l) e o t = (keeps n.0 _ (head_off p n.0 (ids l) e o.1) t.0, list_beside n.0 l e o.1 t.1)

  rings_beside : (rs : List (Ring T)) → IsOff p (map (λ x. x.0) (edges rs)) → AllByRecursion (λ (r : Ring T). Holds cs r.1) rs → AllByRecursion (λ (r : Ring T). Holds ds r.1) rs
  rings_beside [] o t = tt
  rings_beside (r ∷ rs) o t = let off = ring_off p r rs o in (list_beside r.0 r.1 r.0 off.0 t.0, rings_beside rs off.1 t.1)

  ends_beside : (rs : List (Ring T)) → IsOff p (map (λ x. x.0) (edges rs)) → AllByRecursion (λ (r : Ring T). IsIn r.0 cs (λ _ m. m.value ≡ None)) rs → AllByRecursion (λ (r : Ring T). IsIn r.0 ds (λ _ m. m.value ≡ None)) rs
  ends_beside [] o t = tt
  ends_beside (r ∷ rs) o t = let off = ring_off p r rs o in (keeps r.0 _ (head_off p r.0 (ids r.1) r.0 off.0) t.0, ends_beside rs off.1 t.1)

  pub Kept-beside : (es : List Place) (rs : List (Ring T)) → IsOff p (map (λ x. x.0) (edges rs)) → IsOff p (map (λ x. x.1) (edges rs)) → Kept cs es rs → Kept ds es rs
  Kept-beside es rs o i K = record {
    ends_are = K.ends_are;
    tied = record { edges = edges_beside (edges rs) o i K.tied.edges; out = K.tied.out; into = K.tied.into };
    values = rings_beside rs o K.values;
    bare = ends_beside rs o K.bare;
  }

module _ {A V : Type 0} where
  erase-nil : (p : Ptr) → erase {A = A} {V = V} p [] ≡ []
  unfolding erase
  erase-nil p = refl

  find-erase : (q p : Ptr) (cs : List (Cell A V)) → same_ptr p q ≡ false → find q (erase p cs) ≡ find q cs
  find-erase q p [] n = ap (find q) (erase-nil p)
  find-erase q p (k ∷ cs) n = either (same_ptr p k.0)
      (λ t. ap (find q) (erase-here p k cs t) ∙ sym (find-there q k cs (ap (same_ptr q) (sym (same_ptr_eq p k.0 t)) ∙ same_ptr_symm q p ∙ n)))
      (λ u. ap (find q) (erase-there p k cs u) ∙ either (same_ptr q k.0)
      (λ t. find-here q k (erase p cs) t ∙ sym (find-here q k cs t))
      (λ v. find-there q k (erase p cs) v ∙ find-erase q p cs n ∙ sym (find-there q k cs v)))

  less : (p : Ptr) (cs : List (Cell A V)) (q : Ptr) (P : A → V → Type 0) → same_ptr p q ≡ false → IsIn q cs P → IsIn q (erase p cs) P
  less p cs q P n h = subst (λ (o : Option (A × V)). MatchOption o ⊥ (λ c. P c.0 c.1)) (sym (find-erase q p cs n)) h

  length_found : (p : Ptr) (cs : List (Cell A V)) (c : A × V) → find p cs ≡ Some c → length (erase p cs) + 1 ≡ length cs
  length_found p [] c e = absurd (none_some c (sym (find-nil p) ∙ e))
  length_found p (k ∷ cs) c e = either (same_ptr p k.0)
      (λ t. let l = ap length (erase-here p k cs t) in omega (arith, l))
      (λ u. let l = ap length (erase-there p k cs u) in let on = length_found p cs c (sym (find-there p k cs u) ∙ e) in omega (arith, l, on))

  pub length-erase : (p : Ptr) (cs : List (Cell A V)) (P : A → V → Type 0) → IsIn p cs P → length (erase p cs) + 1 ≡ length cs
  length-erase p cs P h = let k = had p cs P h in length_found p cs k.0 k.1

module _ {A T : Type 0} (cs : List (Cell A (Member T))) (es : List Place) (rs : List (Ring T)) (p : Ptr) where
  -- what is at p leaves the heap
  pub Kept-erased : IsOff p (map (λ x. x.0) (edges rs)) → IsOff p (map (λ x. x.1) (edges rs)) → Kept cs es rs → Kept (erase p cs) es rs
  Kept-erased = Kept-beside cs (erase p cs) p (less p cs) es rs

  -- a node in no ring gets another value
  module _ (v w : T) (K : Kept cs es rs) (L : Loose cs rs p v) where
    abbrev pub valued : List (Cell A (Member T))
    valued = change p (λ m. record m { value = Some w }) cs

    pub Kept-valued : Kept valued es rs
    Kept-valued = Kept-beside cs valued p (λ q P n h. IsIn-other q p _ cs P (same_ptr_symm q p ∙ n) h) es rs L.off_out L.off_into K

    pub Loose-valued : Loose valued rs p w
    Loose-valued = record {
      value = IsIn-changed p (λ m. record m { value = Some w }) cs (λ _ m. m.value ≡ Some w) (IsIn-weaker p cs _ (λ _ _. Some w ≡ Some w) (λ _ _ _. refl) L.value);
      off_out = L.off_out;
      off_into = L.off_into;
    }

    pub count-valued : length valued ≡ length cs
    count-valued = length-change p _ cs

  pub Sound-erased : (v : T) → Kept cs es rs → Loose cs rs p v → length cs ≡ length (edges rs) + 1 → Sound (erase p cs) es rs
  Sound-erased v K L c = record { kept = Kept-erased L.off_out L.off_into K; count = let l = length-erase p cs _ L.value in omega (arith, l, c) }
