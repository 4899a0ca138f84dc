-- The timer that fires first.
use Rattle.std.proofs.Common.{◌≡◌, ℕ, suc, ◌+◌, ◌<◌, ◌≤◌, ◌⊎◌, inl, inr, Bool, true, false, cond, true≢false, List, [], ◌∷◌, ◌++◌, map, length, refl, sym, ap, ◌∙◌, subst, length-append, arith}
use Rattle.std.specs.Prelude.{Option, None, Some, not, nat_lt, nat_le, nat_eq, filter}
use Rattle.std.specs.List.{AllByRecursion, IsDistinct}
use Rattle.std.proofs.lemmas.List.{map-append}
use Rattle.std.proofs.lemmas.Bool.{leb-true, le-leb, eq-eqb, eqb-true, ltb-true, ltb-false}
use denote.RawPtr.{Ptr}
use Rattle.link_lists.specs.Places.{same_ptr}
use Rattle.link_lists.specs.Lists.{head_of, front_of, pull_from, has_node}
use Rattle.link_lists.proofs.Memory.{either}
use Rattle.link_lists.proofs.Fronts.{front_has}
use Rattle.link_lists.proofs.Splits.{all_left, all_right, all_both, distinct_differs}
use Rattle.scaled_timer.specs.declared.timers.Entry.{Entry}
use Rattle.scaled_timer.specs.declared.fronts.Front.{Front}
use Rattle.scaled_timer.specs.declared.timers.TimerKind.{TimerKind}
use Rattle.scaled_timer.specs.Order.{in_order}
use Rattle.scaled_timer.specs.Due.{Armed, delay_at, due_moment, is_due, due_timers, waiting_timers}
use Rattle.scaled_timer.specs.declared.fired.Fired.{Fired}
use Rattle.scaled_timer.specs.Timing.{Timing, FiresFirst}
use Rattle.scaled_timer.specs.Fronts.{due_first, due_front, NoLater}
use Rattle.scaled_timer.specs.Entries.{Aged, aged, all_from, armed_of, Rises}
use Rattle.scaled_timer.proofs.Sooner.{NoLater-trans}
use Rattle.scaled_timer.proofs.Sorting.{in_order-first, all-in_order, length-in_order, Cut}
use Rattle.scaled_timer.proofs.Listed.{Gone, eqb_flips, pull-gone, front-gone, armed-cut, all-kept}

-- later by its moment, or at the same moment and armed later
pub less : (a b : ℕ) → a ≤ b → nat_eq a b ≡ false → a < b
less a b h f = either (nat_lt a b) (λ t. ltb-true a b t) (λ g. let l = ltb-false a b g in let e : a ≡ b = omega (arith, h, l) in absurd (true≢false (sym (eq-eqb a b e) ∙ f)))

sooner_or_same : (a b x y : ℕ) → a ≤ b → x < y → (a < b) ⊎ ((a ≡ b) × (x ≤ y))
sooner_or_same a b x y h l = either (nat_eq a b) (λ t. let e = eqb-true a b t in inr (e, omega (arith, l))) (λ f. inl (less a b h f))

module _ (kinds : List TimerKind) (ppm now : ℕ) where
  abbrev due : Armed → ℕ
  due = due_moment kinds ppm

  -- an armed timer, as a front
  abbrev as_front : Aged → Front
  as_front a = record { kind = a.1.kind; due = due a.1; age = a.0 }

  -- r fires no later than the timer, if that is due
  abbrev pub Waits : Option Front → Aged → Type 0
  Waits r a = is_due kinds ppm now a.1 ≡ true → NoLater r (Some (as_front a))

  entry-waits : (r : Option Front) (m : ℕ) (n : Ptr × Entry) → NoLater r (due_first now m (delay_at kinds ppm m) (Some n)) → Waits r (aged m n)
  entry-waits r m n h t = subst (λ b. NoLater r (cond b (Some (as_front (aged m n))) None)) t h

  -- those behind it are due later
  behind-waits : (r : Option Front) (m : ℕ) (n : Ptr × Entry) (l : List (Ptr × Entry)) → Waits r (aged m n) → AllByRecursion (λ (q : Ptr × Entry). (n.1.at ≤ q.1.at) × (n.1.age < q.1.age)) l → AllByRecursion (Waits r) (map (aged m) l)
  behind-waits r m n [] w a = tt
  behind-waits r m n (q ∷ l) w a = (
    λ t. let le = leb-true (due (aged m q).1) now t in let x = a.0.0 in let y = a.0.1 in
        NoLater-trans r (Some (as_front (aged m n))) (Some (as_front (aged m q))) (w (le-leb (due (aged m n).1) now (omega (arith, le, x)))) (sooner_or_same (n.1.at + delay_at kinds ppm m) (q.1.at + delay_at kinds ppm m) n.1.age q.1.age (omega (arith, x)) (omega (arith, y))),
    behind-waits r m n l w a.1,
  )

  list-waits : (r : Option Front) (m : ℕ) (l : List (Ptr × Entry)) → NoLater r (due_first now m (delay_at kinds ppm m) (head_of l)) → Rises l → AllByRecursion (Waits r) (map (aged m) l)
  unfolding Rises
  list-waits r m [] h s = tt
  list-waits r m (n ∷ l) h s = let w = entry-waits r m n h in (w, behind-waits r m n l w s.0)

  lists-wait : (r : Option Front) (k : ℕ) (ls : List (List (Ptr × Entry))) → ((i m : ℕ) → m ≡ k + i → i < length ls → NoLater r (due_first now m (delay_at kinds ppm m) (front_of i ls))) → AllByRecursion Rises ls → AllByRecursion (Waits r) (all_from k ls)
  unfolding all_from front_of
  lists-wait r k [] h s = tt
  lists-wait r k (l ∷ ls) h s =
      all_both (Waits r) (map (aged k) l) (all_from (k + 1) ls) (list-waits r k l (h 0 k (omega arith) (omega arith)) s.0)
      (lists-wait r (k + 1) ls (λ i m e lt. h (suc i) m (omega (arith, e)) (omega (arith, lt))) s.1)

  -- the front that fires first waits for none of the timers
  pub all-wait : (r : Option Front) (ls : List (List (Ptr × Entry))) → length ls ≡ length kinds → ((k : ℕ) → k < length kinds → NoLater r (due_front kinds ppm now ls k)) → AllByRecursion Rises ls → AllByRecursion (Waits r) (all_from 0 ls)
  all-wait r ls same h s = lists-wait r 0 ls (λ i m e lt. let q : m ≡ i = omega (arith, e) in
      subst (λ j. NoLater r (due_first now j (delay_at kinds ppm j) (front_of i ls))) (sym q) (h i (omega (arith, lt, same)))) s

  none-due : (xs : List Aged) → AllByRecursion (Waits None) xs → filter (is_due kinds ppm now) (map (λ a. a.1) xs) ≡ []
  none-due [] t = refl
  none-due (x ∷ xs) t = either (is_due kinds ppm now x.1)
      (λ d. absurd (t.0 d))
      (λ f. ap (λ b. cond b (x.1 ∷ filter (is_due kinds ppm now) (map (λ a. a.1) xs)) (filter (is_due kinds ppm now) (map (λ a. a.1) xs))) f ∙ none-due xs t.1)

  -- where no front is due, no timer is
  pub nothing-due : (ls : List (List (Ptr × Entry))) → length ls ≡ length kinds → ((k : ℕ) → k < length kinds → NoLater None (due_front kinds ppm now ls k)) → AllByRecursion Rises ls → due_timers kinds ppm now (armed_of ls) ≡ []
  unfolding in_order
  nothing-due ls same h s = ap (in_order due) (none-due (in_order (λ a. a.0) (all_from 0 ls)) (all-in_order (λ a. a.0) (Waits None) (all_from 0 ls) (all-wait None ls same h s)))

  -- the due ones among several
  filter-append : (p : Armed → Bool) (xs ys : List Armed) → filter p (xs ++ ys) ≡ filter p xs ++ filter p ys
  filter-append p [] ys = refl
  filter-append p (x ∷ xs) ys = either (p x)
      (λ t. ap (λ b. cond b (x ∷ filter p (xs ++ ys)) (filter p (xs ++ ys))) t ∙ ap (λ l. x ∷ l) (filter-append p xs ys) ∙ sym (ap (λ b. cond b (x ∷ filter p xs) (filter p xs) ++ filter p ys) t))
      (λ f. ap (λ b. cond b (x ∷ filter p (xs ++ ys)) (filter p (xs ++ ys))) f ∙ filter-append p xs ys ∙ sym (ap (λ b. cond b (x ∷ filter p xs) (filter p xs) ++ filter p ys) f))

  all-due : (P : ℕ → Type 0) (xs : List Aged) → AllByRecursion (λ (a : Aged). is_due kinds ppm now a.1 ≡ true → P (due a.1)) xs → AllByRecursion (λ (a : Armed). P (due a)) (filter (is_due kinds ppm now) (map (λ a. a.1) xs))
  all-due P [] t = tt
  all-due P (x ∷ xs) t = either (is_due kinds ppm now x.1)
      (λ d. subst (λ b. AllByRecursion (λ (a : Armed). P (due a)) (cond b (x.1 ∷ filter (is_due kinds ppm now) (map (λ a. a.1) xs)) (filter (is_due kinds ppm now) (map (λ a. a.1) xs)))) (sym d) (t.0 d, all-due P xs t.1))
      (λ f. subst (λ b. AllByRecursion (λ (a : Armed). P (due a)) (cond b (x.1 ∷ filter (is_due kinds ppm now) (map (λ a. a.1) xs)) (filter (is_due kinds ppm now) (map (λ a. a.1) xs)))) (sym f) (all-due P xs t.1))

  all_zip : (P Q R : Aged → Type 0) (xs : List Aged) → ((a : Aged) → P a → Q a → R a) → AllByRecursion P xs → AllByRecursion Q xs → AllByRecursion R xs
  all_zip P Q R [] f s t = tt
  all_zip P Q R (x ∷ xs) f s t = (f x s.0 t.0, all_zip P Q R xs f s.1 t.1)

  -- a due timer that no other one comes before
  module _ (e : Aged) (us vs : List Aged) (is : is_due kinds ppm now e.1 ≡ true) (first : AllByRecursion (λ (a : Aged). is_due kinds ppm now a.1 ≡ true → due e.1 < due a.1) us) (later : AllByRecursion (λ (a : Aged). is_due kinds ppm now a.1 ≡ true → due e.1 ≤ due a.1) vs) where
    abbrev U : List Armed
    U = map (λ a. a.1) us

    abbrev V : List Armed
    V = map (λ a. a.1) vs

    pub due-cut : due_timers kinds ppm now (U ++ e.1 ∷ V) ≡ e.1 ∷ due_timers kinds ppm now (U ++ V)
    due-cut =
        let p = is_due kinds ppm now in
        ap (in_order due) (filter-append p U (e.1 ∷ V) ∙ ap (λ b. filter p U ++ cond b (e.1 ∷ filter p V) (filter p V)) is)
        ∙ in_order-first due (filter p U) e.1 (filter p V) (all-due (λ d. due e.1 < d) us first) (all-due (λ d. due e.1 ≤ d) vs later)
        ∙ ap (λ l. e.1 ∷ in_order due l) (sym (filter-append p U V))

    pub waiting-cut : waiting_timers kinds ppm now (U ++ e.1 ∷ V) ≡ waiting_timers kinds ppm now (U ++ V)
    waiting-cut =
        let p = λ (a : Armed). not (is_due kinds ppm now a) in
        filter-append p U (e.1 ∷ V) ∙ ap (λ b. filter p U ++ cond (not b) (e.1 ∷ filter p V) (filter p V)) is ∙ sym (filter-append p U V)

cons_nil : (x : Armed) (xs : List Armed) → x ∷ xs ≡ [] → ⊥
cons_nil x xs e = cc

module _ (kinds : List TimerKind) (ppm now : ℕ) where
  no_length : (xs : List Armed) → length xs ≡ 0 → xs ≡ []
  no_length [] e = refl
  no_length (x ∷ xs) e = absurd (omega (arith, e))

  waits : (xs : List Armed) → filter (is_due kinds ppm now) xs ≡ [] → waiting_timers kinds ppm now xs ≡ xs
  waits [] e = refl
  waits (x ∷ xs) e = either (is_due kinds ppm now x)
      (λ t. absurd (cons_nil x (filter (is_due kinds ppm now) xs) (sym (ap (λ b. cond b (x ∷ filter (is_due kinds ppm now) xs) (filter (is_due kinds ppm now) xs)) t) ∙ e)))
      (λ f. let rest = sym (ap (λ b. cond b (x ∷ filter (is_due kinds ppm now) xs) (filter (is_due kinds ppm now) xs)) f) ∙ e in
      ap (λ b. cond (not b) (x ∷ waiting_timers kinds ppm now xs) (waiting_timers kinds ppm now xs)) f ∙ ap (λ l. x ∷ l) (waits xs rest))

no_front : {f : Front} → None ≡ Some f → ⊥
no_front e = cc

-- where none is due, all wait
pub all-waiting : (kinds : List TimerKind) (ppm now : ℕ) (xs : List Armed) → due_timers kinds ppm now xs ≡ [] → waiting_timers kinds ppm now xs ≡ xs
all-waiting kinds ppm now xs e = waits kinds ppm now xs (no_length kinds ppm now (filter (is_due kinds ppm now) xs) (sym (length-in_order (due_moment kinds ppm) (filter (is_due kinds ppm now) xs)) ∙ ap length e))

-- the front that fires first, and what is left
module _ (kinds : List TimerKind) (ppm now : ℕ) (ls : List (List (Ptr × Entry))) (f : Front) (same : length ls ≡ length kinds) (low : f.kind < length kinds)
    (at : due_front kinds ppm now ls f.kind ≡ Some f) (least : (k : ℕ) → k < length kinds → NoLater (Some f) (due_front kinds ppm now ls k))
    (rises : AllByRecursion Rises ls) (apart : IsDistinct nat_eq (map (λ (a : Aged). a.0) (all_from 0 ls))) (named : IsDistinct same_ptr (map (λ (a : Aged). a.1.timer) (all_from 0 ls))) where
  pub first_of : (o : Option (Ptr × Entry)) (d : ℕ) → due_first now f.kind d o ≡ Some f → (n : Ptr × Entry) × (o ≡ Some n) × (nat_le (n.1.at + d) now ≡ true) × (f ≡ record { kind = f.kind; due = n.1.at + d; age = n.1.age })
  first_of None d h = cc
  first_of (Some n) d h = either (nat_le (n.1.at + d) now)
      (λ t. (n, refl, t, ap (λ (o : Option Front). elim o as (λ _. Front) [ None ↦ f | Some g ↦ g ]) (sym (sym (ap (λ b. cond b (Some (record { kind = f.kind; due = n.1.at + d; age = n.1.age })) None) t) ∙ h))))
      (λ g. absurd (no_front (sym (ap (λ b. cond b (Some (record { kind = f.kind; due = n.1.at + d; age = n.1.age })) None) g) ∙ h)))

  abbrev pub node : Ptr × Entry
  node = (first_of (front_of f.kind ls) (delay_at kinds ppm f.kind) at).0

  pub node_first : front_of f.kind ls ≡ Some node
  node_first = (first_of (front_of f.kind ls) (delay_at kinds ppm f.kind) at).1

  abbrev e : Aged
  e = aged f.kind node

  is : is_due kinds ppm now e.1 ≡ true
  is = (first_of (front_of f.kind ls) (delay_at kinds ppm f.kind) at).2

  front_is : f ≡ as_front kinds ppm now e
  front_is = (first_of (front_of f.kind ls) (delay_at kinds ppm f.kind) at).3

  pub there : has_node node.0 ls ≡ true
  there = front_has ls f.kind node node_first

  abbrev gone : Gone node.0 (all_from 0 ls) (all_from 0 (pull_from node.0 ls))
  gone = pull-gone 0 node.0 ls there

  gone_is : gone.timer ≡ e
  gone_is = front-gone f.kind node ls node_first named gone

  abbrev cut : Cut (λ (a : Aged). a.0) gone.timer (in_order (λ (a : Aged). a.0) (all_from 0 ls)) (in_order (λ (a : Aged). a.0) (all_from 0 (pull_from node.0 ls)))
  cut = armed-cut node.0 ls gone

  -- each other timer, if it is due, is due later, or at the same moment and armed later
  abbrev Later : Aged → Type 0
  Later a = is_due kinds ppm now a.1 ≡ true → (due_moment kinds ppm e.1 < due_moment kinds ppm a.1) ⊎ ((due_moment kinds ppm e.1 ≡ due_moment kinds ppm a.1) × (e.0 ≤ a.0))

  abbrev Other : Aged → Type 0
  Other a = Later a × (nat_eq e.0 a.0 ≡ false)

  waits_later : (a : Aged) → Waits kinds ppm now (Some f) a → Later a
  waits_later a w t = subst (λ g. NoLater (Some g) (Some (as_front kinds ppm now a))) front_is (w t)

  others : AllByRecursion Other (gone.at.before ++ gone.at.behind)
  others =
      let W = Waits kinds ppm now (Some f) in
      let w = subst (AllByRecursion W) gone.at.is (all-wait kinds ppm now (Some f) ls same least rises) in
      let ages = distinct_differs (λ (a : Aged). a.0) nat_eq eqb_flips gone.at.before gone.timer gone.at.behind (subst (λ l. IsDistinct nat_eq (map (λ (a : Aged). a.0) l)) gone.at.is apart) in
      all_zip kinds ppm now W (λ (a : Aged). nat_eq gone.timer.0 a.0 ≡ false) Other (gone.at.before ++ gone.at.behind)
      (λ a v n. (waits_later a v, ap (λ (g : Aged). nat_eq g.0 a.0) (sym gone_is) ∙ n))
      (all_both W gone.at.before gone.at.behind (all_left W gone.at.before (gone.timer ∷ gone.at.behind) w) (all_right W gone.at.before (gone.timer ∷ gone.at.behind) w).1) ages

  abbrev sides : AllByRecursion Other cut.before × AllByRecursion Other cut.behind
  sides = all-kept Other node.0 ls gone others

  earlier : (a : Aged) → Other a → a.0 ≤ gone.timer.0 → is_due kinds ppm now a.1 ≡ true → due_moment kinds ppm e.1 < due_moment kinds ppm a.1
  earlier a o le t = elim (o.0 t) [
    | inl l ↦ l
    | inr l ↦ let x = l.1 in let g = ap (λ (b : Aged). b.0) gone_is in let q : e.0 ≡ a.0 = omega (arith, x, le, g) in absurd (true≢false (sym (eq-eqb e.0 a.0 q) ∙ o.1))
  ]

  no_earlier : (a : Aged) → Other a → is_due kinds ppm now a.1 ≡ true → due_moment kinds ppm e.1 ≤ due_moment kinds ppm a.1
  no_earlier a o t = elim (o.0 t) [ inl l ↦ omega (arith, l) | inr l ↦ let x = l.0 in omega (arith, x) ]

  all_each : (P Q : Aged → Type 0) (xs : List Aged) → ((a : Aged) → P a → Q a) → AllByRecursion P xs → AllByRecursion Q xs
  all_each P Q [] g t = tt
  all_each P Q (x ∷ xs) g t = (g x t.0, all_each P Q xs g t.1)

  firsts : AllByRecursion (λ (a : Aged). is_due kinds ppm now a.1 ≡ true → due_moment kinds ppm e.1 < due_moment kinds ppm a.1) cut.before
  firsts = all_zip kinds ppm now Other (λ (a : Aged). a.0 ≤ gone.timer.0) (λ (a : Aged). is_due kinds ppm now a.1 ≡ true → due_moment kinds ppm e.1 < due_moment kinds ppm a.1) cut.before earlier sides.0 cut.least

  laters : AllByRecursion (λ (a : Aged). is_due kinds ppm now a.1 ≡ true → due_moment kinds ppm e.1 ≤ due_moment kinds ppm a.1) cut.behind
  laters = all_each Other (λ (a : Aged). is_due kinds ppm now a.1 ≡ true → due_moment kinds ppm e.1 ≤ due_moment kinds ppm a.1) cut.behind no_earlier sides.1

  abbrev front_part : List Armed
  front_part = map (λ (a : Aged). a.1) cut.before

  abbrev back_part : List Armed
  back_part = map (λ (a : Aged). a.1) cut.behind

  old_is : armed_of ls ≡ front_part ++ e.1 ∷ back_part
  old_is = ap (map (λ (a : Aged). a.1)) cut.whole ∙ map-append (λ (a : Aged). a.1) cut.before (gone.timer ∷ cut.behind) ∙ ap (λ (g : Aged). front_part ++ g.1 ∷ back_part) gone_is

  new_is : armed_of (pull_from node.0 ls) ≡ front_part ++ back_part
  new_is = ap (map (λ (a : Aged). a.1)) cut.rest ∙ map-append (λ (a : Aged). a.1) cut.before cut.behind

  pub fires_first : (told : Fired) (old new : Timing) → old.kinds ≡ kinds → old.state ≡ ppm → old.armed ≡ armed_of ls → new.kinds ≡ kinds → new.state ≡ ppm → new.armed ≡ armed_of (pull_from node.0 ls)
      → new.fired ≡ old.fired ++ node.0 ∷ [] → new.latest ≡ old.latest → told ≡ record { kind = f.kind; id = node.1.id } → FiresFirst told now old new
  fires_first told old new ok os oa nk ns na nf nl t = record {
    first = e.1;
    rest = due_timers kinds ppm now (front_part ++ back_part);
    due_before = (λ i. due_timers (ok i) (os i) now ((oa ∙ old_is) i)) ∙ due-cut kinds ppm now e cut.before cut.behind is firsts laters;
    told_is = t;
    due_behind = λ i. due_timers (nk i) (ns i) now ((na ∙ new_is) i);
    waiting = (λ i. waiting_timers (nk i) (ns i) now ((na ∙ new_is) i)) ∙ sym (waiting-cut kinds ppm now e cut.before cut.behind is firsts laters) ∙ sym (λ i. waiting_timers (ok i) (os i) now ((oa ∙ old_is) i));
    fewer = let x = ap length (na ∙ new_is) ∙ length-append front_part back_part in let y = ap length (oa ∙ old_is) ∙ length-append front_part (e.1 ∷ back_part) in omega (arith, x, y);
    fired = nf;
    kinds = nk ∙ sym ok;
    state = ns ∙ sym os;
    latest = nl;
  }
