-- The fronts that a queue has, as the lists change.
use Rattle.std.proofs.Common.{◌≡◌, ℕ, zero, suc, ◌+◌, ◌<◌, Bool, true, false, cond, true≢false, List, [], ◌∷◌, ◌++◌, map, length, refl, sym, ap, ◌∙◌, subst, arith}
use Rattle.std.specs.Prelude.{Option, None, Some, nat_eq, nat_le, count_by}
use Rattle.std.specs.List.{AllByRecursion, IsDistinct}
use Rattle.std.specs.List.Sorted.{IsPermutation}
use Rattle.std.specs.Option.{option_to_list}
use Rattle.std.proofs.lemmas.Bool.{eqb-true, eq-eqb}
use Rattle.std.proofs.lemmas.List.Sums.{sum_by-cons}
use Rattle.std.proofs.lemmas.List.Sorted.{IsPermutation-sym, Contains-permutation, sum_by_pushed, sum_by_popped}
use denote.RawPtr.{Ptr}
use Rattle.link_lists.specs.Places.{same_ptr}
use Rattle.link_lists.specs.Lists.{front_of, pull_from}
use Rattle.link_lists.specs.Seen.{emptied, IsLone}
use Rattle.link_lists.proofs.Memory.{either, same_ptr_eq}
use Rattle.link_lists.proofs.Fronts.{front_gone, option_cases}
use Rattle.link_lists.proofs.Splits.{all_at, all_from as each_from}
use Rattle.scaled_timer.specs.declared.timers.Entry.{Entry}
use Rattle.scaled_timer.specs.declared.fronts.Front.{Front}
use Rattle.scaled_timer.specs.declared.timers.TimerKind.{TimerKind}
use Rattle.scaled_timer.specs.Due.{delay_at}
use Rattle.scaled_timer.specs.Timing.{has_timer}
use Rattle.scaled_timer.specs.Entries.{Aged, aged, all_from}
use Rattle.scaled_timer.specs.Fronts.{due_first, due_front, NoLater}
use Rattle.scaled_timer.specs.Merge.{HasFronts}
use Rattle.scaled_timer.proofs.Listed.{eqb_flips, has-list, has-all}
use Rattle.scaled_timer.proofs.Turning.{less}

abbrev digit : Bool → ℕ
digit b = cond b 1 0

abbrev size_of : Option Front → ℕ
size_of o = length (option_to_list o)

module _ {X : Type 0} where
  pub all_permuted : (P : X → Type 0) (xs ys : List X) → IsPermutation xs ys → AllByRecursion P xs → AllByRecursion P ys
  all_permuted P xs ys h t = each_from P ys (λ x c. all_at P xs x t (Contains-permutation ys xs x (IsPermutation-sym xs ys h) c))

  all_with : (P Q R : X → Type 0) (xs : List X) → ((x : X) → P x → Q x → R x) → AllByRecursion P xs → AllByRecursion Q xs → AllByRecursion R xs
  all_with P Q R [] f s t = tt
  all_with P Q R (x ∷ xs) f s t = (f x s.0 t.0, all_with P Q R xs f s.1 t.1)

  all_weaker : (P Q : X → Type 0) (xs : List X) → ((x : X) → P x → Q x) → AllByRecursion P xs → AllByRecursion Q xs
  all_weaker P Q [] f t = tt
  all_weaker P Q (x ∷ xs) f t = (f x t.0, all_weaker P Q xs f t.1)

  -- how many pass a test
  module _ (p : X → Bool) where
    first_counts : (x : X) (xs : List X) → count_by p (x ∷ xs) ≡ digit (p x) + count_by p xs
    first_counts x xs = sum_by-cons (λ y. cond (p y) 1 0) x xs

    none_pass : (xs : List X) → count_by p xs ≡ 0 → AllByRecursion (λ x. p x ≡ false) xs
    none_pass [] h = tt
    none_pass (x ∷ xs) h = let c = first_counts x xs in
        (either (p x) (λ t. let one : digit (p x) ≡ 1 = ap digit t in absurd (omega (arith, h, c, one))) (λ f. f), none_pass xs (omega (arith, h, c)))

    all_fail : (xs : List X) → AllByRecursion (λ x. p x ≡ false) xs → count_by p xs ≡ 0
    all_fail [] h = refl
    all_fail (x ∷ xs) h = let c = first_counts x xs in let none : digit (p x) ≡ 0 = ap digit h.0 in let on = all_fail xs h.1 in omega (arith, c, none, on)

    some_passes : (P : X → Type 0) (xs : List X) → 0 < count_by p xs → AllByRecursion P xs → (x : X) × (p x ≡ true) × P x
    some_passes P [] h t = absurd (omega (arith, h))
    some_passes P (x ∷ xs) h t = either (p x)
        (λ y. (x, y, t.0))
        (λ n. let c = first_counts x xs in let none : digit (p x) ≡ 0 = ap digit n in some_passes P xs (omega (arith, h, c, none)) t.1)

-- a list's first node leaves the fronts of the others
front-emptied : (j k : ℕ) (ls : List (List (Ptr × Entry))) → nat_eq j k ≡ false → front_of k (emptied j ls) ≡ front_of k ls
unfolding front_of emptied
front-emptied j k [] h = refl
front-emptied zero zero (l ∷ ls) h = absurd (true≢false (sym (eq-eqb 0 0 refl) ∙ h))
front-emptied zero (suc k) (l ∷ ls) h = refl
front-emptied (suc j) zero (l ∷ ls) h = refl
front-emptied (suc j) (suc k) (l ∷ ls) h = front-emptied j k ls
    (either (nat_eq j k) (λ t. let e = eqb-true j k t in let q : suc j ≡ suc k = omega (arith, e) in absurd (true≢false (sym (eq-eqb (suc j) (suc k) q) ∙ h))) (λ f. f))

off_names : (p : Ptr) (us vs : List Aged) → AllByRecursion (λ (q : Ptr). same_ptr p q ≡ false) (map (λ (a : Aged). a.1.timer) (us ++ vs)) → has_timer p (map (λ (a : Aged). a.1) vs) ≡ false
unfolding has_timer
off_names p (u ∷ us) vs t = off_names p us vs t.1
off_names p [] [] t = refl
off_names p [] (v ∷ vs) t = ap (λ b. cond b true (has_timer p (map (λ (a : Aged). a.1) vs))) t.0 ∙ off_names p [] vs t.1

apart_names : (p : Ptr) (us vs : List Aged) → IsDistinct same_ptr (map (λ (a : Aged). a.1.timer) (us ++ vs)) → has_timer p (map (λ (a : Aged). a.1) us) ≡ true → has_timer p (map (λ (a : Aged). a.1) vs) ≡ false
unfolding IsDistinct has_timer
apart_names p [] vs d h = cc
apart_names p (u ∷ us) vs d h = either (same_ptr p u.1.timer)
    (λ t. off_names p us vs (subst (λ q. AllByRecursion (λ (r : Ptr). same_ptr q r ≡ false) (map (λ (a : Aged). a.1.timer) (us ++ vs))) (sym (same_ptr_eq p u.1.timer t)) d.0))
    (λ f. apart_names p us vs d.1 (sym (ap (λ c. cond c true (has_timer p (map (λ (a : Aged). a.1) us))) f) ∙ h))

right_names : (us vs : List Aged) → IsDistinct same_ptr (map (λ (a : Aged). a.1.timer) (us ++ vs)) → IsDistinct same_ptr (map (λ (a : Aged). a.1.timer) vs)
unfolding IsDistinct
right_names [] vs d = d
right_names (u ∷ us) vs d = right_names us vs d.1

lone : (k : ℕ) (p : Ptr) (ls : List (List (Ptr × Entry))) → IsDistinct same_ptr (map (λ (a : Aged). a.1.timer) (all_from k ls)) → IsLone p ls
unfolding all_from IsLone
lone k p [] d = tt
lone k p (l ∷ ls) d = (
  λ h. sym (has-all (k + 1) p ls) ∙ apart_names p (map (aged k) l) (all_from (k + 1) ls) d (has-list k p l ∙ h),
  lone (k + 1) p ls (right_names (map (aged k) l) (all_from (k + 1) ls) d),
)

pub other_fronts : (kinds : List TimerKind) (ppm now j : ℕ) (q : Ptr × Entry) (ls : List (List (Ptr × Entry))) → front_of j ls ≡ Some q → IsDistinct same_ptr (map (λ (a : Aged). a.1.timer) (all_from 0 ls))
    → (k : ℕ) → nat_eq j k ≡ false → due_front kinds ppm now (pull_from q.0 ls) k ≡ due_front kinds ppm now ls k
other_fronts kinds ppm now j q ls h d k n =
    ap (due_first now k (delay_at kinds ppm k)) (sym (front-emptied j k (pull_from q.0 ls) n) ∙ ap (front_of k) (front_gone ls j q h (lone 0 q.0 ls d)).0 ∙ front-emptied j k ls n)

none_later : (o : Option Front) → 0 ≡ length (option_to_list o) → NoLater None o
none_later None h = tt
none_later (Some f) h = absurd (omega (arith, h))

kind_of : (now k d : ℕ) (o : Option (Ptr × Entry)) (f : Front) → due_first now k d o ≡ Some f → f.kind ≡ k
kind_of now k d None f h = cc
kind_of now k d (Some n) f h = either (nat_le (n.1.at + d) now)
    (λ t. let q : Some (record { kind = k; due = n.1.at + d; age = n.1.age }) ≡ Some f = sym (ap (λ b. cond b (Some (record { kind = k; due = n.1.at + d; age = n.1.age })) None) t) ∙ h in
    sym (ap (λ (o : Option Front). elim o as (λ _. ℕ) [ None ↦ k | Some g ↦ g.kind ]) q))
    (λ g. let q : None ≡ Some f = sym (ap (λ b. cond b (Some (record { kind = k; due = n.1.at + d; age = n.1.age })) None) g) ∙ h in cc)

module _ (kinds : List TimerKind) (ppm now : ℕ) where
  -- no front at all: none is due
  pub none_due : (ls : List (List (Ptr × Entry))) (n : ℕ) → HasFronts kinds ppm now ls n [] → (k : ℕ) → k < n → NoLater None (due_front kinds ppm now ls k)
  none_due ls n h k low = none_later (due_front kinds ppm now ls k) (h.once k low)

  -- what fires no later than any front of the queue, fires no later than any that is due
  pub least_due : (ls : List (List (Ptr × Entry))) (n : ℕ) (f : Front) (fs : List Front) → HasFronts kinds ppm now ls n fs → AllByRecursion (λ (g : Front). NoLater (Some f) (Some g)) fs
      → (k : ℕ) → k < n → NoLater (Some f) (due_front kinds ppm now ls k)
  least_due ls n f fs h all k low = option_cases (due_front kinds ppm now ls k)
      (λ e. subst (NoLater (Some f)) (sym e) tt)
      (λ g e.
      let Is : Front → Type 0 = λ x. (x.kind < n) × (due_front kinds ppm now ls x.kind ≡ Some x) in
      let one : size_of (due_front kinds ppm now ls k) ≡ 1 = ap size_of e in
      let c : count_by (λ (y : Front). nat_eq k y.kind) fs ≡ size_of (due_front kinds ppm now ls k) = h.once k low in
      let x = some_passes (λ (y : Front). nat_eq k y.kind) (λ y. Is y × NoLater (Some f) (Some y)) fs (omega (arith, c, one)) (all_with Is (λ y. NoLater (Some f) (Some y)) (λ y. Is y × NoLater (Some f) (Some y)) fs (λ y a b. (a, b)) h.each all) in
      subst (NoLater (Some f)) (sym (ap (due_front kinds ppm now ls) (eqb-true k x.0.kind x.1) ∙ x.2.0.1)) x.2.1)

  -- list by list
  module _ (ls : List (List (Ptr × Entry))) (n : ℕ) (fs : List Front) (h : HasFronts kinds ppm now ls n fs) where
    abbrev Within : ℕ → Front → Type 0
    Within m f = (f.kind < m) × (due_front kinds ppm now ls f.kind ≡ Some f)

    wider : AllByRecursion (Within (n + 1)) fs
    wider = all_weaker (Within n) (Within (n + 1)) fs (λ x t. (let l = t.0 in omega (arith, l), t.1)) h.each

    none_yet : count_by (λ (x : Front). nat_eq n x.kind) fs ≡ 0
    none_yet = all_fail (λ (x : Front). nat_eq n x.kind) fs
        (all_weaker (Within n) (λ x. nat_eq n x.kind ≡ false) fs (λ x t. either (nat_eq n x.kind) (λ y. let e = eqb-true n x.kind y in let l = t.0 in absurd (omega (arith, e, l))) (λ f. f)) h.each)

    below : (k : ℕ) → k < n + 1 → nat_eq k n ≡ false → k < n
    below k l f = less k n (omega (arith, l)) f

    pub none_more : due_front kinds ppm now ls n ≡ None → HasFronts kinds ppm now ls (n + 1) fs
    none_more e = record {
      each = wider;
      once = λ k low. either (nat_eq k n)
          (λ t. subst (λ j. count_by (λ (x : Front). nat_eq j x.kind) fs ≡ length (option_to_list (due_front kinds ppm now ls j))) (sym (eqb-true k n t)) (none_yet ∙ sym (ap size_of e)))
          (λ f. h.once k (below k low f));
    }

    pub one_more : (g : Front) (more : List Front) → due_front kinds ppm now ls n ≡ Some g → IsPermutation (g ∷ fs) more → HasFronts kinds ppm now ls (n + 1) more
    one_more g more e p =
        let kind : g.kind ≡ n = kind_of now n (delay_at kinds ppm n) (front_of n ls) g e in
        record {
          each = all_permuted (Within (n + 1)) (g ∷ fs) more p ((omega (arith, kind), ap (due_front kinds ppm now ls) kind ∙ e), wider);
          once = λ k low.
              let c : count_by (λ (x : Front). nat_eq k x.kind) more ≡ digit (nat_eq k g.kind) + count_by (λ (x : Front). nat_eq k x.kind) fs = sum_by_pushed (λ (x : Front). digit (nat_eq k x.kind)) g fs more p in
              let r : count_by (λ (x : Front). nat_eq k x.kind) more ≡ size_of (due_front kinds ppm now ls k) = either (nat_eq k n)
              (λ t. let q = eqb-true k n t in
              let one : digit (nat_eq k g.kind) ≡ 1 = ap digit (eq-eqb k g.kind (q ∙ sym kind)) in
              let none : count_by (λ (x : Front). nat_eq k x.kind) fs ≡ 0 = subst (λ j. count_by (λ (x : Front). nat_eq j x.kind) fs ≡ 0) (sym q) none_yet in
              let size : size_of (due_front kinds ppm now ls k) ≡ 1 = ap (λ j. size_of (due_front kinds ppm now ls j)) q ∙ ap size_of e in
              omega (arith, c, one, none, size))
              (λ f. let none : digit (nat_eq k g.kind) ≡ 0 = ap digit (ap (nat_eq k) kind ∙ f) in let o : count_by (λ (x : Front). nat_eq k x.kind) fs ≡ size_of (due_front kinds ppm now ls k) = h.once k (below k low f) in omega (arith, c, none, o)) in
              r;
        }

  -- a front leaves the queue with its timer
  module _ (n : ℕ) (ls new : List (List (Ptr × Entry))) (f : Front) (old rest : List Front) (h : HasFronts kinds ppm now ls n old) (taken : IsPermutation old (f ∷ rest))
      (same : (k : ℕ) → nat_eq f.kind k ≡ false → due_front kinds ppm now new k ≡ due_front kinds ppm now ls k) where
    abbrev Is : List (List (Ptr × Entry)) → Front → Type 0
    Is l g = (g.kind < n) × (due_front kinds ppm now l g.kind ≡ Some g)

    all : AllByRecursion (Is ls) (f ∷ rest)
    all = all_permuted (Is ls) old (f ∷ rest) taken h.each

    counted : (k : ℕ) → k < n → count_by (λ (g : Front). nat_eq k g.kind) rest + digit (nat_eq k f.kind) ≡ size_of (due_front kinds ppm now ls k)
    counted k low = sum_by_popped (λ (g : Front). digit (nat_eq k g.kind)) f old rest taken ∙ h.once k low

    gone : count_by (λ (g : Front). nat_eq f.kind g.kind) rest ≡ 0
    gone = let c = counted f.kind all.0.0 in let size : size_of (due_front kinds ppm now ls f.kind) ≡ 1 = ap size_of all.0.1 in let one : digit (nat_eq f.kind f.kind) ≡ 1 = ap digit (eq-eqb f.kind f.kind refl) in omega (arith, c, size, one)

    each : AllByRecursion (Is new) rest
    each = all_with (Is ls) (λ (g : Front). nat_eq f.kind g.kind ≡ false) (Is new) rest (λ g i d. (i.0, same g.kind d ∙ i.1)) all.1 (none_pass (λ (g : Front). nat_eq f.kind g.kind) rest gone)

    other : (k : ℕ) → k < n → nat_eq k f.kind ≡ false → count_by (λ (g : Front). nat_eq k g.kind) rest ≡ length (option_to_list (due_front kinds ppm now new k))
    other k low d =
        let c = counted k low in let none : digit (nat_eq k f.kind) ≡ 0 = ap digit d in
        let size : size_of (due_front kinds ppm now new k) ≡ size_of (due_front kinds ppm now ls k) = ap size_of (same k (eqb_flips f.kind k ∙ d)) in
        let r : count_by (λ (g : Front). nat_eq k g.kind) rest ≡ size_of (due_front kinds ppm now new k) = omega (arith, c, none, size) in r

    pub none_behind : due_front kinds ppm now new f.kind ≡ None → HasFronts kinds ppm now new n rest
    none_behind e = record {
      each = each;
      once = λ k low. either (nat_eq k f.kind)
          (λ t. subst (λ j. count_by (λ (x : Front). nat_eq j x.kind) rest ≡ length (option_to_list (due_front kinds ppm now new j))) (sym (eqb-true k f.kind t)) (gone ∙ sym (ap size_of e)))
          (λ d. other k low d);
    }

    pub next_behind : (g : Front) (more : List Front) → due_front kinds ppm now new f.kind ≡ Some g → IsPermutation (g ∷ rest) more → HasFronts kinds ppm now new n more
    next_behind g more e p =
        let kind : g.kind ≡ f.kind = kind_of now f.kind (delay_at kinds ppm f.kind) (front_of f.kind new) g e in
        let low = all.0.0 in
        record {
          each = all_permuted (Is new) (g ∷ rest) more p ((omega (arith, kind, low), ap (due_front kinds ppm now new) kind ∙ e), each);
          once = λ k l.
              let c : count_by (λ (x : Front). nat_eq k x.kind) more ≡ digit (nat_eq k g.kind) + count_by (λ (x : Front). nat_eq k x.kind) rest = sum_by_pushed (λ (x : Front). digit (nat_eq k x.kind)) g rest more p in
              let r : count_by (λ (x : Front). nat_eq k x.kind) more ≡ size_of (due_front kinds ppm now new k) = either (nat_eq k f.kind)
              (λ t. let q = eqb-true k f.kind t in
              let one : digit (nat_eq k g.kind) ≡ 1 = ap digit (eq-eqb k g.kind (q ∙ sym kind)) in
              let none : count_by (λ (x : Front). nat_eq k x.kind) rest ≡ 0 = subst (λ j. count_by (λ (x : Front). nat_eq j x.kind) rest ≡ 0) (sym q) gone in
              let size : size_of (due_front kinds ppm now new k) ≡ 1 = ap (λ j. size_of (due_front kinds ppm now new j)) q ∙ ap size_of e in
              omega (arith, c, one, none, size))
              (λ d. let none : digit (nat_eq k g.kind) ≡ 0 = ap digit (ap (nat_eq k) kind ∙ d) in let o : count_by (λ (x : Front). nat_eq k x.kind) rest ≡ size_of (due_front kinds ppm now new k) = other k l d in omega (arith, c, none, o)) in
              r;
        }
