-- Each step keeps the rule of the published list.
use Rattle.std.proofs.Common.{◌≡◌, ◌≢◌, ℕ, ◌+◌, List, [], ◌∷◌, ◌++◌, length, replicate, set, sym, refl, ap, ◌∙◌, subst, ⊎_elim, append_assoc, append-nil, length-append, arith}
use mathlib.Core.Option.{some, some-ne-none}
use lib.ListN.{get_elem?}
use Rattle.left_right.specs.Register.{Admits, Turns, TurnsAt}
use Rattle.atomic_table.proofs.Lists.{at_set, at_snoc}
use Rattle.shared_state.specs.declared.entries.Entry.{Entry}
use Rattle.shared_state.specs.Entries.{StartsWith, last_or}
use Rattle.shared_state.specs.Published.{IsLast, IsOneList, Shows}

abbrev L : Type 0
L = List (List ℕ)

abbrev zeros : List ℕ
zeros = replicate 16 0

pub starts_refl : (l : L) → StartsWith l l
starts_refl l = ([], sym (append-nil l))

starts_more : (l v m : L) → StartsWith l v → StartsWith (l ++ m) v
starts_more l v m h = (h.0 ++ m, ap (λ (x : L). x ++ m) h.1 ∙ append_assoc v h.0 m)

-- a beginning as long as the list is the list
starts_whole : (l v : L) → StartsWith l v → length l ≡ length v → l ≡ v
starts_whole l v (rest, e) len = go rest e
  where
    go : (rest : L) → l ≡ v ++ rest → l ≡ v
    go [] e = e ∙ append-nil v
    go (x ∷ xs) e = absurd (let n = ap (λ (k : L). length k) e in omega (arith, length-append v (x ∷ xs)))

last_or_snoc : (d x : List ℕ) (l : L) → last_or d (l ++ x ∷ []) ≡ x
last_or_snoc d x [] = refl
last_or_snoc d x (y ∷ ys) = last_or_snoc y x ys

-- with one entry more, whose pressures are the last
pub grown : (v w : L) (e : Entry) → Shows v e w → e.version ≡ length v + 1 → w ≡ v ++ e.pressures ∷ []
grown v w e (last, (rest, is)) len = one rest is
  where
    one : (rest : L) → w ≡ v ++ rest → w ≡ v ++ e.pressures ∷ []
    one [] is = absurd (let n = ap (λ (k : L). length k) is in let m = last.0 in omega (arith, length-append v []))
    one (x ∷ []) is = is ∙ ap (λ (y : List ℕ). v ++ y ∷ []) (sym (last_or_snoc zeros x v) ∙ ap (last_or zeros) (sym is) ∙ sym last.1)
    one (x ∷ y ∷ ys) is = absurd (let n = ap (λ (k : L). length k) is in let m = last.0 in omega (arith, length-append v (x ∷ y ∷ ys)))

pub begins : (e : Entry) → e.version ≡ 0 → e.pressures ≡ zeros → IsOneList e ([] ∷ [])
begins e number pressures = record {
  all = [];
  last = (number, pressures);
  each = λ j u at. ⊎_elim (λ (none_there : get_elem? [] j ≡ some u). absurd (some-ne-none u (sym none_there))) (λ (is : [] ≡ u). subst (StartsWith []) is ([], refl)) (at_snoc [] [] u j at);
}

pub admits : Admits IsOneList []
admits x views r = record {
  all = r.all;
  last = r.last;
  each = λ j u e. ⊎_elim (λ was. r.each j u was) (λ (is : [] ≡ u). subst (StartsWith r.all) is (r.all, refl)) (at_snoc views [] u j e);
}

each_set : (all : L) (views : List L) (id : ℕ) (w : L) → StartsWith all w → ((j : ℕ) (u : L) → get_elem? views j ≡ some u → StartsWith all u)
    → (j : ℕ) (u : L) → get_elem? (set views id w) j ≡ some u → StartsWith all u
each_set all views id w here others j u e = ⊎_elim (λ (t : (j ≡ id) × (w ≡ u)). subst (StartsWith all) t.1 here) (λ (t : (j ≢ id) × (get_elem? views j ≡ some u)). others j u t.1) (at_set views id j w u e)

-- a reader enters
pub sees : (id : ℕ) (v : L) → Turns IsOneList id v (λ x. x) (λ v _ y w. Shows v y w)
sees id v x views r at = (r.all, record { all = r.all; last = r.last; each = each_set r.all views id r.all (starts_refl r.all) r.each }, (r.last, r.each id v at))

-- the publisher, which has seen all, publishes
pub publishes : (id : ℕ) (v : L) (x y : Entry) → IsLast x v → y.version ≡ x.version + 1 → TurnsAt IsOneList id v x y (λ v _ y w. Shows v y w)
publishes id v x y mine next views r at =
    let same : r.all ≡ v = starts_whole r.all v (r.each id v at) (sym r.last.0 ∙ mine.0) in
    let w : L = v ++ y.pressures ∷ [] in
    let end : IsLast y w = ((let m = mine.0 in omega (arith, length-append v (y.pressures ∷ []))), sym (last_or_snoc zeros y.pressures v)) in (
      w,
      record {
        all = w;
        last = end;
        each = each_set w views id w (starts_refl w) (λ j u e. starts_more v u (y.pressures ∷ []) (subst (λ (l : L). StartsWith l u) same (r.each j u e)));
      },
      (end, starts_more v v (y.pressures ∷ []) (starts_refl v)),
    )

-- what a publisher that had seen all has seen after its publish
pub known_is : (before v w : L) (e x : Entry) → Shows v e w → e ≡ x → v ≡ before → x.version ≡ length before + 1 → w ≡ before ++ x.pressures ∷ []
known_is before v w e x shows is at len =
    grown v w e shows (ap (λ (y : Entry). y.version) is ∙ len ∙ ap (λ (l : L). length l + 1) (sym at)) ∙ (λ i. at i ++ (is i).pressures ∷ [])
