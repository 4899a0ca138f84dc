-- How the tokens stay those of the armed timers.
use Rattle.std.proofs.Common.{◌≡◌, ℕ, ◌<◌, Bool, true, false, cond, not, List, [], ◌∷◌, ◌++◌, map, filter, refl, sym, ap, ◌∙◌, subst, append-nil, arith}
use Rattle.std.specs.Prelude.{Option, None, Some}
use Rattle.std.specs.List.{AllByRecursion, IsDistinct}
use Rattle.std.specs.List.Sorted.{IsPermutation}
use Rattle.std.proofs.lemmas.List.Sorted.{IsPermutation-refl, IsPermutation-cons, IsPermutation-swap, IsPermutation-trans, IsPermutation-map, IsPermutation-append_left, IsPermutation-filter_both}
use Rattle.std.proofs.lemmas.Map.Keys.{IsDistinct-IsPermutation}
use denote.RawPtr.{Ptr}
use Rattle.link_lists.specs.Places.{same_ptr}
use Rattle.link_lists.specs.Lists.{contains_id, without_id}
use Rattle.link_lists.proofs.Memory.{either, same_ptr_refl}
use Rattle.link_lists.proofs.Edges.{same_ptr_symm}
use Rattle.link_lists.proofs.Splits.{all_both, all_unmap, distinct_with}
use Rattle.scaled_timer.specs.declared.fired.Fired.{Fired}
use Rattle.scaled_timer.specs.Due.{Armed}
use Rattle.scaled_timer.specs.Order.{placed, in_order}
use Rattle.scaled_timer.specs.Timing.{Timing, firing, names_of, has_timer, without_timer}
use Rattle.scaled_timer.proofs.Sorting.{by_key, placed-later, placed-here, all-in_order}
use Rattle.wire_timers.specs.Held.{Key, key_of, same_key, Found, Spent}
use Rattle.wire_timers.proofs.Keys.{same_refl, same_symm}
use Rattle.wire_timers.proofs.Finding.{look, Differs, others, none-differs, all-others, look-others, look-last, look-parted, all-filter}
use Rattle.wire_timers.proofs.Naming.{there, without-is, unnamed}

-- ---- what is distinct stays so
module _ {Y : Type 0} (f : Armed → Y) (eq : Y → Y → Bool) where
  mapped-filter : (p : Armed → Bool) (P : Y → Type 0) (xs : List Armed) → AllByRecursion P (map f xs) → AllByRecursion P (map f (filter p xs))
  mapped-filter p P [] h = tt
  mapped-filter p P (x ∷ xs) h = either (p x)
      (λ t. subst (λ b. AllByRecursion P (map f (cond b (x ∷ filter p xs) (filter p xs)))) (sym t) (h.0, mapped-filter p P xs h.1))
      (λ n. subst (λ b. AllByRecursion P (map f (cond b (x ∷ filter p xs) (filter p xs)))) (sym n) (mapped-filter p P xs h.1))

  pub distinct-filter : (p : Armed → Bool) (xs : List Armed) → IsDistinct eq (map f xs) → IsDistinct eq (map f (filter p xs))
  unfolding IsDistinct
  distinct-filter p [] d = tt
  distinct-filter p (x ∷ xs) d = either (p x)
      (λ t. subst (λ b. IsDistinct eq (map f (cond b (x ∷ filter p xs) (filter p xs)))) (sym t) (mapped-filter p (λ y. eq (f x) y ≡ false) xs d.0, distinct-filter p xs d.1))
      (λ n. subst (λ b. IsDistinct eq (map f (cond b (x ∷ filter p xs) (filter p xs)))) (sym n) (distinct-filter p xs d.1))

  pub distinct-last : ((a b : Y) → eq a b ≡ eq b a) → (xs : List Armed) (x : Armed) → AllByRecursion (λ (a : Armed). eq (f x) (f a) ≡ false) xs → IsDistinct eq (map f xs) → IsDistinct eq (map f (xs ++ x ∷ []))
  distinct-last flips xs x h d = distinct_with f eq flips xs x []
      (subst (AllByRecursion (λ (a : Armed). eq (f x) (f a) ≡ false)) (sym (append-nil xs)) h)
      (subst (λ l. IsDistinct eq (map f l)) (sym (append-nil xs)) d)

-- ---- a key's timer is gone
-- what a map says of each key where one is taken out
abbrev pub TakesOut : Key → (Key → Option Ptr) → (Key → Option Ptr) → Type 0
TakesOut k find new = (q : Key) → new q ≡ cond (same_key k q) None (find q)

pub taken-out : (k : Key) (find new : Key → Option Ptr) (xs : List Armed) → Found find xs → TakesOut k find new → Found new (others k xs)
taken-out k find new xs h t = record {
  same = λ q. t q ∙ ap (cond (same_key k q) None) (h.same q) ∙ sym (look-others k q xs);
  known = all-filter (λ a. not (same_key k (key_of a))) (λ (a : Armed). a.kind < 3) xs h.known;
  apart = distinct-filter key_of same_key (λ a. not (same_key k (key_of a))) xs h.apart;
  named = distinct-filter (λ a. a.timer) same_ptr (λ a. not (same_key k (key_of a))) xs h.named;
}

-- where nothing has the key, nothing changes
pub not-there : (k : Key) (find : Key → Option Ptr) (xs : List Armed) → Found find xs → find k ≡ None → others k xs ≡ xs
not-there k find xs h n = all-others k xs (none-differs k xs (sym (h.same k) ∙ n))

pub held-there : (k : Key) (p : Ptr) (find : Key → Option Ptr) (xs : List Armed) → Found find xs → find k ≡ Some p → has_timer p xs ≡ true
held-there k p find xs h e = there k p xs (sym (h.same k) ∙ e)

pub without-it : (k : Key) (p : Ptr) (find : Key → Option Ptr) (xs : List Armed) → Found find xs → find k ≡ Some p → without_timer p xs ≡ others k xs
without-it k p find xs h e = without-is k p xs h.apart h.named (sym (h.same k) ∙ e)

-- ---- a timer is armed
abbrev pub PutsIn : Key → Ptr → (Key → Option Ptr) → (Key → Option Ptr) → Type 0
PutsIn k p find new = (q : Key) → new q ≡ cond (same_key k q) (Some p) (find q)

-- the timer has no key and no name of another
pub put-in : (a : Armed) (find new : Key → Option Ptr) (xs : List Armed) → Found find xs → find (key_of a) ≡ None → AllByRecursion (λ (b : Armed). same_ptr a.timer b.timer ≡ false) xs → a.kind < 3
    → PutsIn (key_of a) a.timer find new → Found new (xs ++ a ∷ [])
put-in a find new xs h none fresh small t =
    let away = none-differs (key_of a) xs (sym (h.same (key_of a)) ∙ none) in record {
      same = λ q. t q ∙ ap (cond (same_key (key_of a) q) (Some a.timer)) (h.same q) ∙ sym (look-last q xs a away);
      known = all_both (λ (b : Armed). b.kind < 3) xs (a ∷ []) h.known (small, tt);
      apart = distinct-last key_of same_key same_symm xs a away h.apart;
      named = distinct-last (λ b. b.timer) same_ptr same_ptr_symm xs a fresh h.named;
    }

-- it is armed in the place of what its key had
pub armed-again : (a : Armed) (find new : Key → Option Ptr) (xs : List Armed) → Found find xs → has_timer a.timer xs ≡ false → a.kind < 3
    → PutsIn (key_of a) a.timer find new → Found new (others (key_of a) xs ++ a ∷ [])
armed-again a find new xs h fresh small t =
    let k = key_of a in
    let mid : Key → Option Ptr = λ q. cond (same_key k q) None (find q) in
    put-in a mid new (others k xs) (taken-out k find mid xs h (λ q. refl)) (ap (λ b. cond b None (find k)) (same_refl k))
    (all-filter (λ b. not (same_key k (key_of b))) (λ (b : Armed). same_ptr a.timer b.timer ≡ false) xs (unnamed a.timer xs fresh)) small
    (λ q. t q ∙ (elim (same_key k q) as (λ b. cond b (Some a.timer) (find q) ≡ cond b (Some a.timer) (cond b None (find q))) [ true ↦ refl | false ↦ refl ]))

-- ---- timers have fired
module _ (key : Armed → ℕ) where
  perm-placed : (x : Armed) (ys : List Armed) → IsPermutation (x ∷ ys) (placed key x ys)
  unfolding placed
  perm-placed x [] = IsPermutation-refl (x ∷ [])
  perm-placed x (y ∷ ys) = by_key key x y
      (λ l. subst (IsPermutation (x ∷ y ∷ ys)) (sym (placed-later key x y ys l))
      (IsPermutation-trans (x ∷ y ∷ ys) (y ∷ x ∷ ys) (y ∷ placed key x ys) (IsPermutation-swap (x ∷ y ∷ ys) (y ∷ x ∷ ys) 0 1 (omega arith) (omega arith) refl) (IsPermutation-cons y (x ∷ ys) (placed key x ys) (perm-placed x ys))))
      (λ l. subst (IsPermutation (x ∷ y ∷ ys)) (sym (placed-here key x y ys l)) (IsPermutation-refl (x ∷ y ∷ ys)))

  perm-in_order : (xs : List Armed) → IsPermutation xs (in_order key xs)
  unfolding in_order
  perm-in_order [] = IsPermutation-refl []
  perm-in_order (x ∷ xs) = IsPermutation-trans (x ∷ xs) (x ∷ in_order key xs) (placed key x (in_order key xs)) (IsPermutation-cons x xs (in_order key xs) (perm-in_order xs)) (perm-placed x (in_order key xs))

  -- the timers that pass a test in order, and then the others
  abbrev pub parted : (Armed → Bool) → List Armed → List Armed
  parted p xs = in_order key (filter p xs) ++ filter (λ a. not (p a)) xs

  perm-parted : (p : Armed → Bool) (xs : List Armed) → IsPermutation xs (parted p xs)
  perm-parted p xs = let yes = filter p xs in let no = filter (λ a. not (p a)) xs in
      IsPermutation-trans xs (yes ++ no) (in_order key yes ++ no) (IsPermutation-filter_both p (λ a. not (p a)) (λ a. refl) xs) (IsPermutation-append_left no yes (in_order key yes) (perm-in_order yes))

  pub found-parted : (p : Armed → Bool) (find : Key → Option Ptr) (xs : List Armed) → Found find xs → Found find (parted p xs)
  found-parted p find xs h =
      let yes = filter p xs in let no = filter (λ a. not (p a)) xs in let P : Armed → Type 0 = λ a. a.kind < 3 in
      record {
        same = λ q. h.same q ∙ sym (look-parted p q key xs h.apart (distinct-filter key_of same_key p xs h.apart));
        known = all_both P (in_order key yes) no (all-in_order key P yes (all-filter p P xs h.known)) (all-filter (λ a. not (p a)) P xs h.known);
        apart = IsDistinct-IsPermutation same_key same_symm (map key_of xs) (map key_of (parted p xs)) (IsPermutation-map key_of xs (parted p xs) (perm-parted p xs)) h.apart;
        named = IsDistinct-IsPermutation same_ptr same_ptr_symm (names_of xs) (names_of (parted p xs)) (IsPermutation-map (λ a. a.timer) xs (parted p xs) (perm-parted p xs)) h.named;
      }

-- the first of them is found, and has fired
pub record FirstSpent (find : Key → Option Ptr) (t : Timing) (f : Fired) (rest : List Fired) : Type 0 where
  pub timer : Ptr
  pub known : f.kind < 3
  pub found : find (f.kind, f.id) ≡ Some timer
  pub fired : contains_id timer t.fired ≡ true
  pub left : (new : Key → Option Ptr) (after : Timing) → TakesOut (f.kind, f.id) find new → after ≡ record t { fired = without_id timer t.fired } → Spent new after rest

fired_head : (f g : Fired) (fs gs : List Fired) → f ∷ fs ≡ g ∷ gs → f ≡ g
fired_head f g fs gs e = cc

fired_tail : (f g : Fired) (fs gs : List Fired) → f ∷ fs ≡ g ∷ gs → fs ≡ gs
fired_tail f g fs gs e = cc

key-apart : (d : Armed) (xs : List Armed) → IsDistinct same_key (map key_of (d ∷ xs)) → Differs (key_of d) xs
unfolding IsDistinct
key-apart d xs h = all_unmap key_of (λ j. same_key (key_of d) j ≡ false) xs h.0

first-of : (find : Key → Option Ptr) (t : Timing) (f : Fired) (rest : List Fired) (due : List Armed) → f ∷ rest ≡ map firing due → t.fired ≡ names_of due → Found find (due ++ t.armed) → FirstSpent find t f rest
unfolding IsDistinct contains_id without_id
first-of find t f rest [] told names h = absurd (let e : f ∷ rest ≡ [] = told in cc)
first-of find t f rest (d ∷ due) told names h =
    let k = key_of d in
    let key-is : (f.kind, f.id) ≡ k = ap (λ (g : Fired). (g.kind, g.id)) (fired_head f (firing d) rest (map firing due) told) in
    let at : find k ≡ Some d.timer = h.same k ∙ ap (λ b. cond b (Some d.timer) (look k (due ++ t.armed))) (same_refl k) in
    record {
      timer = d.timer;
      known = subst (λ (j : Key). j.0 < 3) (sym key-is) h.known.0;
      found = ap find key-is ∙ at;
      fired = ap (contains_id d.timer) names ∙ ap (λ b. cond b true (contains_id d.timer (names_of due))) (same_ptr_refl d.timer);
      left = λ new after out is.
          let others-are : others k (d ∷ (due ++ t.armed)) ≡ due ++ t.armed =
          ap (λ b. cond (not b) (d ∷ others k (due ++ t.armed)) (others k (due ++ t.armed))) (same_refl k) ∙ all-others k (due ++ t.armed) (key-apart d (due ++ t.armed) h.apart) in
          record {
            due = due;
            told = fired_tail f (firing d) rest (map firing due) told;
            names = ap (λ (s : Timing). s.fired) is ∙ ap (without_id d.timer) names ∙ ap (λ b. cond b (names_of due) (d.timer ∷ without_id d.timer (names_of due))) (same_ptr_refl d.timer);
            found = subst (λ (s : List Armed). Found new (due ++ s)) (sym (ap (λ (s : Timing). s.armed) is)) (subst (Found new) others-are (taken-out k find new (d ∷ (due ++ t.armed)) h (subst (λ j. TakesOut j find new) key-is out)));
          };
    }

pub first-spent : (find : Key → Option Ptr) (t : Timing) (f : Fired) (rest : List Fired) → Spent find t (f ∷ rest) → FirstSpent find t f rest
first-spent find t f rest s = first-of find t f rest s.due s.told s.names s.found

none_left : (find : Key → Option Ptr) (t : Timing) (due : List Armed) → [] ≡ map firing due → t.fired ≡ names_of due → Found find (due ++ t.armed) → Found find t.armed × (t.fired ≡ [])
none_left find t [] told names h = (h, names)
none_left find t (d ∷ due) told names h = absurd (let e : [] ≡ firing d ∷ map firing due = told in cc)

pub all-spent : (find : Key → Option Ptr) (t : Timing) → Spent find t [] → Found find t.armed × (t.fired ≡ [])
all-spent find t s = none_left find t s.due s.told s.names s.found
