-- The first node of the k-th ring.
use Rattle.std.proofs.Common.{◌≡◌, ℕ, ◌<◌, zero, suc, true, false, true≢false, sym, cond, List, [], ◌∷◌, map, length, refl, ap, ◌∙◌, ◌+◌, subst, arith}
use Rattle.std.specs.Prelude.{⊤, Option, None, Some, is_some, MatchOption}
use Rattle.std.specs.List.{AllByRecursion}
use denote.RawPtr.{Ptr}
use Rattle.link_lists.specs.Places.{same_ptr}
use Rattle.link_lists.specs.Cells.{Cell, IsIn}
use Rattle.link_lists.specs.Lists.{has, pull, has_node, pull_from, head_of, front_of}
use Rattle.link_lists.specs.Notes.{Ring, seen}
use Rattle.link_lists.specs.Rings.{Edge, edges_of}
use Rattle.link_lists.specs.Kept.{ids, edges, Holds, Kept}
use Rattle.link_lists.specs.Seen.{emptied, IsLone}
use Rattle.link_lists.specs.declared.member.Member.{Member}
use Rattle.link_lists.specs.declared.heap.Place.{Place}
use Rattle.link_lists.proofs.Memory.{either, had, same_ptr_refl}
use Rattle.link_lists.proofs.Changes.{IsIn-both, IsIn-weaker}
use Rattle.link_lists.proofs.Splits.{all_left, all_right}
use Rattle.link_lists.proofs.Pushed.{nth_end}

module _ {A T : Type 0} (cs : List (Cell A (Member T))) where
  inj : (a b : Ptr × T) → Some a ≡ Some b → a ≡ b
  inj a b e = ap (λ (o : Option (Ptr × T)). elim o as (λ _. Ptr × T) [ None ↦ a | Some c ↦ c ]) e

  head_edge : (a : Ptr) (l : List (Ptr × T)) (e : Ptr) (q : Ptr × T) → head_of l ≡ Some q → AllByRecursion (Edge cs) (edges_of a (ids l) e) → Edge cs (a, q.0)
  unfolding edges_of
  head_edge a [] e q h t = cc
  head_edge a (n ∷ l) e q h t = subst (λ (r : Ptr × T). Edge cs (a, r.0)) (inj n q h) t.0

  pub front_edge : (rs : List (Ring T)) (k : ℕ) (q : Ptr × T) → front_of k (seen rs) ≡ Some q → AllByRecursion (Edge cs) (edges rs) → Edge cs (nth_end rs k, q.0)
  unfolding edges nth_end front_of
  front_edge [] k q h t = cc
  front_edge (r ∷ rs) zero q h t = head_edge r.0 r.1 r.0 q h (all_left (Edge cs) (edges_of r.0 (ids r.1) r.0) (edges rs) t)
  front_edge (r ∷ rs) (suc k) q h t = front_edge rs k q h (all_right (Edge cs) (edges_of r.0 (ids r.1) r.0) (edges rs) t)

  head_holds : (l : List (Ptr × T)) (q : Ptr × T) → head_of l ≡ Some q → Holds cs l → IsIn q.0 cs (λ _ m. m.value ≡ Some q.1)
  head_holds [] q h t = cc
  head_holds (n ∷ l) q h t = subst (λ (r : Ptr × T). IsIn r.0 cs (λ _ m. m.value ≡ Some r.1)) (inj n q h) t.0

  front_holds : (rs : List (Ring T)) (k : ℕ) (q : Ptr × T) → front_of k (seen rs) ≡ Some q → AllByRecursion (λ (r : Ring T). Holds cs r.1) rs → IsIn q.0 cs (λ _ m. m.value ≡ Some q.1)
  unfolding front_of
  front_holds [] k q h t = cc
  front_holds (r ∷ rs) zero q h t = head_holds r.1 q h t.0
  front_holds (r ∷ rs) (suc k) q h t = front_holds rs k q h t.1

  -- a ring with no node is closed by its end
  bare_edge : (a : Ptr) (l : List (Ptr × T)) (e : Ptr) → head_of l ≡ None → AllByRecursion (Edge cs) (edges_of a (ids l) e) → Edge cs (a, e)
  unfolding edges_of
  bare_edge a [] e h t = t.0
  bare_edge a (n ∷ l) e h t = cc

  end_edge : (rs : List (Ring T)) (k : ℕ) → k < length (seen rs) → front_of k (seen rs) ≡ None → AllByRecursion (Edge cs) (edges rs) → Edge cs (nth_end rs k, nth_end rs k)
  unfolding edges nth_end front_of
  end_edge [] k low h t = absurd (omega arith)
  end_edge (r ∷ rs) zero low h t = bare_edge r.0 r.1 r.0 h (all_left (Edge cs) (edges_of r.0 (ids r.1) r.0) (edges rs) t)
  end_edge (r ∷ rs) (suc k) low h t = end_edge rs k (omega arith) h (all_right (Edge cs) (edges_of r.0 (ids r.1) r.0) (edges rs) t)

  pub end_bare : (rs : List (Ring T)) (k : ℕ) → k < length (seen rs) → AllByRecursion (λ (r : Ring T). IsIn r.0 cs (λ _ m. m.value ≡ None)) rs → IsIn (nth_end rs k) cs (λ _ m. m.value ≡ None)
  unfolding nth_end
  end_bare [] k low t = absurd (omega arith)
  end_bare (r ∷ rs) zero low t = t.0
  end_bare (r ∷ rs) (suc k) low t = end_bare rs k (omega arith) t.1

module _ {T : Type 0} where
  has_head : (l : List (Ptr × T)) (q : Ptr × T) → head_of l ≡ Some q → has q.0 l ≡ true
  unfolding has
  has_head [] q h = cc
  has_head (n ∷ l) q h = ap (λ c. cond c true (has q.0 l)) (ap (λ (r : Ptr × T). same_ptr q.0 r.0) (inj {A = Unit {0}} [] n q h) ∙ same_ptr_refl q.0)

  pub front_has : (ls : List (List (Ptr × T))) (k : ℕ) (q : Ptr × T) → front_of k ls ≡ Some q → has_node q.0 ls ≡ true
  unfolding has_node front_of
  front_has [] k q h = cc
  front_has (l ∷ ls) zero q h = ap (λ c. cond c true (has_node q.0 ls)) (has_head l q h)
  front_has (l ∷ ls) (suc k) q h = let on = front_has ls k q h in either (has q.0 l)
      (λ t. ap (λ c. cond c true (has_node q.0 ls)) t) (λ f. ap (λ c. cond c true (has_node q.0 ls)) f ∙ on)

module _ {T : Type 0} where
  pub first_is : (o : Option (Ptr × T)) (p : Ptr) → MatchOption o ⊥ (λ n. n.0 ≡ p) → (n : Ptr × T) × (o ≡ Some n) × (n.0 ≡ p)
  first_is None p h = absurd h
  first_is (Some n) p h = (n, refl, h)

-- how many nodes the k-th list has
unfoldable pub size_at : {T : Type 0} → ℕ → List (List (Ptr × T)) → ℕ
size_at k [] = 0
size_at zero (l ∷ ls) = length l
size_at (suc k) (l ∷ ls) = size_at k ls

module _ {T : Type 0} where
  length-pull : (p : Ptr) (l : List (Ptr × T)) → has p l ≡ true → length (pull p l) + 1 ≡ length l
  unfolding has pull
  length-pull p [] h = cc
  length-pull p (n ∷ l) h = either (same_ptr p n.0)
      (λ t. let e = ap (λ c. length (cond c l (n ∷ pull p l))) t in omega (arith, e))
      (λ f. let e = ap (λ c. length (cond c l (n ∷ pull p l))) f in let on = length-pull p l (sym (ap (λ c. cond c true (has p l)) f) ∙ h) in omega (arith, e, on))

  -- the first node of the k-th list leaves it, and no other
  pub front_gone : (ls : List (List (Ptr × T))) (k : ℕ) (q : Ptr × T) → front_of k ls ≡ Some q → IsLone q.0 ls
      → (emptied k (pull_from q.0 ls) ≡ emptied k ls) × (size_at k (pull_from q.0 ls) + 1 ≡ size_at k ls) × (length (pull_from q.0 ls) ≡ length ls)
  unfolding front_of pull_from emptied size_at IsLone has_node
  front_gone [] k q h s = cc
  front_gone (l ∷ ls) zero q h s =
      let t = has_head l q h in let e = ap (λ c. cond c (pull q.0 l ∷ ls) (l ∷ pull_from q.0 ls)) t in
      (ap (emptied 0) e, ap (λ ms. size_at 0 ms + 1) e ∙ length-pull q.0 l t, ap length e)
  front_gone (l ∷ ls) (suc k) q h s =
      let on = front_gone ls k q h s.1 in
      either (has q.0 l)
      (λ t. absurd (true≢false (sym (front_has ls k q h) ∙ s.0 t)))
      (λ f. let e = ap (λ c. cond c (pull q.0 l ∷ ls) (l ∷ pull_from q.0 ls)) f in
      (ap (emptied (suc k)) e ∙ ap (λ ms. l ∷ ms) on.0, ap (λ ms. size_at (suc k) ms + 1) e ∙ on.1, let n = on.2 in let m = ap length e in omega (arith, n, m)))

  -- the same of the name that a call gave
  pub taken_away : (ls : List (List (Ptr × T))) (k : ℕ) (p : Ptr) → MatchOption (front_of k ls) ⊥ (λ n. n.0 ≡ p) → IsLone p ls
      → (has_node p ls ≡ true) × (emptied k (pull_from p ls) ≡ emptied k ls) × (size_at k (pull_from p ls) + 1 ≡ size_at k ls) × (length (pull_from p ls) ≡ length ls)
  taken_away ls k p m s = let x = first_is (front_of k ls) p m in
      subst (λ q. (has_node q ls ≡ true) × (emptied k (pull_from q ls) ≡ emptied k ls) × (size_at k (pull_from q ls) + 1 ≡ size_at k ls) × (length (pull_from q ls) ≡ length ls)) x.2
      (let on = front_gone ls k x.0 x.1 (subst (λ q. IsLone q ls) (sym x.2) s) in (front_has ls k x.0 x.1, on.0, on.1, on.2))

  -- a list with no first node is empty already
  pub empty_already : (ls : List (List (Ptr × T))) (k : ℕ) → front_of k ls ≡ None → emptied k ls ≡ ls
  unfolding front_of emptied
  empty_already [] k h = refl
  empty_already ([] ∷ ls) zero h = refl
  empty_already ((n ∷ l) ∷ ls) zero h = cc
  empty_already (l ∷ ls) (suc k) h = ap (λ ms. l ∷ ms) (empty_already ls k h)

-- by cases over whether there is a first node
abbrev pub option_cases : {X : Type 0} {G : Type 0} (o : Option X) → (o ≡ None → G) → ((x : X) → o ≡ Some x → G) → G
option_cases None f g = f refl
option_cases (Some x) f g = g x refl

-- what an end and what comes after it tell of a ring
module _ {A T : Type 0} (cs : List (Cell A (Member T))) (es : List Place) (rs : List (Ring T)) (K : Kept cs es rs) (k : ℕ) (low : k < length (seen rs)) (s : Ptr) (is : s ≡ nth_end rs k) where
  pub end_in : IsIn s cs (λ _ _. ⊤)
  end_in = IsIn-weaker s cs _ (λ _ _. ⊤) (λ _ _ _. tt) (subst (λ q. IsIn q cs (λ _ m. m.value ≡ None)) (sym is) (end_bare cs rs k low K.bare))

  module _ (e : Member T) (he : IsIn s cs (λ _ m. e ≡ m)) where
    next_is : (q : Ptr) → Edge cs (nth_end rs k, q) → e.next.ptr ≡ q
    next_is q g = let x = had s cs _ (IsIn-both s cs _ _ he (subst (λ r. IsIn r cs (λ _ m. m.next.ptr ≡ q)) (sym is) g.0)) in ap (λ m. m.next.ptr) x.2.0 ∙ x.2.1

    pub next_in : IsIn e.next.ptr cs (λ _ _. ⊤)
    next_in = option_cases (front_of k (seen rs))
        (λ n. let g = end_edge cs rs k low n K.tied.edges in subst (λ r. IsIn r cs (λ _ _. ⊤)) (sym (next_is (nth_end rs k) g)) (IsIn-weaker _ cs _ (λ _ _. ⊤) (λ _ _ _. tt) g.1))
        (λ q n. let g = front_edge cs rs k q n K.tied.edges in subst (λ r. IsIn r cs (λ _ _. ⊤)) (sym (next_is q.0 g)) (IsIn-weaker _ cs _ (λ _ _. ⊤) (λ _ _ _. tt) g.1))

    module _ (m : Member T) (hm : IsIn e.next.ptr cs (λ _ w. m ≡ w)) where
      value_is : (q : Ptr) (v : Option T) → e.next.ptr ≡ q → IsIn q cs (λ _ w. w.value ≡ v) → m.value ≡ v
      value_is q v n h = let x = had _ cs _ (IsIn-both e.next.ptr cs _ _ hm (subst (λ r. IsIn r cs (λ _ w. w.value ≡ v)) (sym n) h)) in ap (λ w. w.value) x.2.0 ∙ x.2.1

      pub none_first : is_some m.value ≡ false → front_of k (seen rs) ≡ None
      none_first h = option_cases (front_of k (seen rs)) (λ n. n)
          (λ q n. let v = value_is q.0 (Some q.1) (next_is q.0 (front_edge cs rs k q n K.tied.edges)) (front_holds cs rs k q n K.values) in absurd (true≢false (sym (ap is_some v) ∙ h)))

      pub some_first : is_some m.value ≡ true → (q : Ptr × T) × (front_of k (seen rs) ≡ Some q) × (q.0 ≡ e.next.ptr)
      some_first h = option_cases (front_of k (seen rs))
          (λ n. let v = value_is (nth_end rs k) None (next_is (nth_end rs k) (end_edge cs rs k low n K.tied.edges)) (end_bare cs rs k low K.bare) in absurd (true≢false (sym h ∙ ap is_some v)))
          (λ q n. (q, n, sym (next_is q.0 (front_edge cs rs k q n K.tied.edges))))

len_map : {T : Type 0} (rs : List (Ring T)) → length (seen rs) ≡ length (map (λ (r : Ring T). r.0) rs)
len_map [] = refl
len_map (r ∷ rs) = let on = len_map rs in omega arith

len_ptr : (es : List Place) → length (map (λ (p : Place). p.ptr) es) ≡ length es
len_ptr [] = refl
len_ptr (p ∷ es) = let on = len_ptr es in omega arith

pub ends_len : {T : Type 0} (rs : List (Ring T)) (es : List Place) → map (λ (r : Ring T). r.0) rs ≡ map (λ (p : Place). p.ptr) es → length (seen rs) ≡ length es
ends_len {T} rs es e = len_map rs ∙ ap length e ∙ len_ptr es
