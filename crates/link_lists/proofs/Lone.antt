-- A node stands in one ring at most.
use Rattle.std.proofs.Common.{◌≡◌, true, false, cond, List, [], ◌∷◌, ◌++◌, map, refl, sym, ap, ◌∙◌, subst}
use Rattle.std.specs.List.{IsDistinct}
use Rattle.std.proofs.lemmas.List.{map-append}
use denote.RawPtr.{Ptr}
use Rattle.link_lists.specs.Places.{same_ptr}
use Rattle.link_lists.specs.Cells.{Cell, IsFree}
use Rattle.link_lists.specs.Lists.{has, has_node, contains_id}
use Rattle.link_lists.specs.Notes.{Ring, seen}
use Rattle.link_lists.specs.Rings.{Pair, edges_of}
use Rattle.link_lists.specs.Kept.{ids, edges, Kept}
use Rattle.link_lists.specs.Seen.{IsLone}
use Rattle.link_lists.specs.declared.member.Member.{Member}
use Rattle.link_lists.specs.declared.heap.Place.{Place}
use Rattle.link_lists.proofs.Memory.{either, same_ptr_eq}
use Rattle.link_lists.proofs.Edges.{IsOff}
use Rattle.link_lists.proofs.Splits.{all_right}
use Rattle.link_lists.proofs.Beside.{head_off, ring_off}
use Rattle.link_lists.proofs.Pushed.{free_off}

abbrev outs : List Pair → List Ptr
outs = map (λ e. e.0)

module _ {T : Type 0} where
  -- a place that is off all edges is that of no node
  list_absent : (p a : Ptr) (l : List (Ptr × T)) (e : Ptr) → IsOff p (outs (edges_of a (ids l) e)) → has p l ≡ false
  unfolding edges_of has
  list_absent p a [] e o = refl
  list_absent p a (n ∷ l) e o = ap (λ c. cond c true (has p l)) (head_off p n.0 (ids l) e o.1) ∙ list_absent p n.0 l e o.1

  pub absent : (p : Ptr) (rs : List (Ring T)) → IsOff p (outs (edges rs)) → has_node p (seen rs) ≡ false
  unfolding has_node
  absent p [] o = refl
  absent p (r ∷ rs) o = let off = ring_off p r rs o in ap (λ c. cond c true (has_node p (seen rs))) (list_absent p r.0 r.1 r.0 off.0) ∙ absent p rs off.1

  has-ids : (p : Ptr) (l : List (Ptr × T)) → has p l ≡ contains_id p (ids l)
  unfolding has contains_id
  has-ids p [] = refl
  has-ids p (n ∷ l) = ap (λ b. cond (same_ptr p n.0) true b) (has-ids p l)

outs-edges_of : (a : Ptr) (ps : List Ptr) (e : Ptr) → outs (edges_of a ps e) ≡ a ∷ ps
unfolding edges_of
outs-edges_of a [] e = refl
outs-edges_of a (p ∷ ps) e = ap (λ qs. a ∷ qs) (outs-edges_of p ps e)

contains-tail : (p a : Ptr) (ps : List Ptr) → contains_id p ps ≡ true → contains_id p (a ∷ ps) ≡ true
unfolding contains_id
contains-tail p a ps h = either (same_ptr p a) (λ t. ap (λ c. cond c true (contains_id p ps)) t) (λ f. ap (λ c. cond c true (contains_id p ps)) f ∙ h)

-- what one half of distinct places has, the other hasn't
apart : (p : Ptr) (xs ys : List Ptr) → IsDistinct same_ptr (xs ++ ys) → contains_id p xs ≡ true → IsOff p ys
unfolding IsDistinct contains_id
apart p [] ys d h = cc
apart p (x ∷ xs) ys d h = either (same_ptr p x)
    (λ t. subst (λ q. IsOff q ys) (sym (same_ptr_eq p x t)) (all_right (λ q. same_ptr x q ≡ false) xs ys d.0))
    (λ f. apart p xs ys d.1 (sym (ap (λ c. cond c true (contains_id p xs)) f) ∙ h))

distinct_right : (xs ys : List Ptr) → IsDistinct same_ptr (xs ++ ys) → IsDistinct same_ptr ys
unfolding IsDistinct
distinct_right [] ys d = d
distinct_right (x ∷ xs) ys d = distinct_right xs ys d.1

module _ {T : Type 0} where
  -- the place of a node is the source of an edge
  list_source : (p a : Ptr) (l : List (Ptr × T)) (e : Ptr) → has p l ≡ true → contains_id p (outs (edges_of a (ids l) e)) ≡ true
  list_source p a l e h = subst (λ qs. contains_id p qs ≡ true) (sym (outs-edges_of a (ids l) e)) (contains-tail p a (ids l) (sym (has-ids p l) ∙ h))

  pub lone : (p : Ptr) (rs : List (Ring T)) → IsDistinct same_ptr (outs (edges rs)) → IsLone p (seen rs)
  unfolding edges IsLone
  lone p [] d = tt
  lone p (r ∷ rs) d =
      let es = edges_of r.0 (ids r.1) r.0 in
      let both = subst (IsDistinct same_ptr) (map-append (λ (e : Pair). e.0) es (edges rs)) d in
      (λ h. absent p rs (apart p (outs es) (outs (edges rs)) both (list_source p r.0 r.1 r.0 h)), lone p rs (distinct_right (outs es) (outs (edges rs)) both))

  -- a free place is that of no node
  pub fresh : {A : Type 0} (p : Ptr) (cs : List (Cell A (Member T))) (es : List Place) (rs : List (Ring T)) → IsFree p cs → Kept cs es rs → has_node p (seen rs) ≡ false
  fresh p cs es rs f K = absent p rs (free_off p cs (edges rs) f K.tied.edges).0
