-- Which timers are held after a call. The crates above cite these.
use Rattle.std.proofs.Common.{◌≡◌, ℕ, Bool, true, false, cond, true≢false, List, [], ◌∷◌, ◌++◌, refl, sym, ap, ◌∙◌, subst, append-nil}
use Rattle.std.specs.Prelude.{◌||◌, not, filter, Result, Ok, Err, IfOk, OnErr}
use Rattle.std.specs.List.{AllByRecursion, IsDistinct}
use denote.RawPtr.{Ptr}
use Rattle.link_lists.specs.Places.{same_ptr}
use Rattle.link_lists.specs.Lists.{contains_id, without_id}
use Rattle.link_lists.proofs.Memory.{either, same_ptr_refl, same_ptr_eq}
use Rattle.link_lists.proofs.Edges.{same_ptr_symm, with_one}
use Rattle.link_lists.proofs.Splits.{all_both}
use Rattle.scaled_timer.specs.Order.{placed, in_order}
use Rattle.scaled_timer.specs.Due.{Armed, is_due, due_timers, waiting_timers, due_moment}
use Rattle.scaled_timer.specs.Timing.{Timing, has_timer, without_timer, IsHeld, AreHeld, names_of}
use Rattle.scaled_timer.proofs.Sorting.{by_key, placed-later, placed-here}

or_true : (a : Bool) → (a || true) ≡ true
or_true true = refl
or_true false = refl

has-snoc : (q : Ptr) (a : Armed) (xs : List Armed) → has_timer q (xs ++ a ∷ []) ≡ (has_timer q xs || same_ptr q a.timer)
unfolding has_timer
has-snoc q a [] = elim (same_ptr q a.timer) as (λ b. cond b true false ≡ b) [ true ↦ refl | false ↦ refl ]
has-snoc q a (x ∷ xs) = ap (λ b. cond (same_ptr q x.timer) true b) (has-snoc q a xs)
    ∙ elim (same_ptr q x.timer) as (λ b. cond b true (has_timer q xs || same_ptr q a.timer) ≡ (cond b true (has_timer q xs) || same_ptr q a.timer)) [ true ↦ refl | false ↦ refl ]

module _ (q : Ptr) (old : Timing) (h : IsHeld q old) where
  -- after `arm`
  pub held-arm : (new : Timing) (now : ℕ) (a : Armed) → new ≡ record old { latest = now; armed = old.armed ++ a ∷ [] } → IsHeld q new
  held-arm new now a e = subst (IsHeld q) (sym e)
      (ap (λ b. b || contains_id q old.fired) (has-snoc q a old.armed)
      ∙ elim (has_timer q old.armed) as (λ b. (b || contains_id q old.fired) ≡ true → ((b || same_ptr q a.timer) || contains_id q old.fired) ≡ true) [ true ↦ λ _. refl | false ↦ λ k. ap (λ b. same_ptr q a.timer || b) k ∙ or_true (same_ptr q a.timer) ] h)

  pub held_differs : (p : Ptr) → has_timer p old.armed ≡ false → contains_id p old.fired ≡ false → same_ptr q p ≡ false
  held_differs p f g = either (same_ptr q p)
      (λ t. let same = same_ptr_eq q p t in absurd (true≢false (sym h ∙ (λ i. has_timer (same i) old.armed || contains_id (same i) old.fired) ∙ (λ i. f i || g i))))
      (λ n. n)

pub held-new : (old new : Timing) (now : ℕ) (a : Armed) → new ≡ record old { latest = now; armed = old.armed ++ a ∷ [] } → IsHeld a.timer new
held-new old new now a e = subst (IsHeld a.timer) (sym e)
    (ap (λ b. b || contains_id a.timer old.fired) (has-snoc a.timer a old.armed ∙ ap (λ b. has_timer a.timer old.armed || b) (same_ptr_refl a.timer) ∙ or_true (has_timer a.timer old.armed)))

has-without : (q p : Ptr) (xs : List Armed) → same_ptr q p ≡ false → has_timer q (without_timer p xs) ≡ has_timer q xs
unfolding has_timer without_timer
has-without q p [] n = refl
has-without q p (x ∷ xs) n = either (same_ptr p x.timer)
    (λ t. let away : same_ptr q x.timer ≡ false = ap (same_ptr q) (sym (same_ptr_eq p x.timer t)) ∙ n in
    ap (λ c. has_timer q (cond c xs (x ∷ without_timer p xs))) t ∙ sym (ap (λ c. cond c true (has_timer q xs)) away))
    (λ f. ap (λ c. has_timer q (cond c xs (x ∷ without_timer p xs))) f ∙ ap (λ b. cond (same_ptr q x.timer) true b) (has-without q p xs n))

contains-without : (q p : Ptr) (ps : List Ptr) → same_ptr q p ≡ false → contains_id q (without_id p ps) ≡ contains_id q ps
unfolding contains_id without_id
contains-without q p [] n = refl
contains-without q p (r ∷ ps) n = either (same_ptr p r)
    (λ t. let away : same_ptr q r ≡ false = ap (same_ptr q) (sym (same_ptr_eq p r t)) ∙ n in
    ap (λ c. contains_id q (cond c ps (r ∷ without_id p ps))) t ∙ sym (ap (λ c. cond c true (contains_id q ps)) away))
    (λ f. ap (λ c. contains_id q (cond c ps (r ∷ without_id p ps))) f ∙ ap (λ b. cond (same_ptr q r) true b) (contains-without q p ps n))

-- after `disarm`
pub held-disarm : (q p : Ptr) (old new : Timing) → IsHeld p old → (has_timer p old.armed ≡ true → new ≡ record old { armed = without_timer p old.armed }) → (contains_id p old.fired ≡ true → new ≡ record old { fired = without_id p old.fired })
    → same_ptr q p ≡ false → IsHeld q old → IsHeld q new
held-disarm q p old new at f g n h = either (has_timer p old.armed)
    (λ t. subst (IsHeld q) (sym (f t)) (ap (λ b. b || contains_id q old.fired) (has-without q p old.armed n) ∙ h))
    (λ k. subst (IsHeld q) (sym (g (sym (ap (λ b. b || contains_id p old.fired) k) ∙ at))) (ap (λ b. has_timer q old.armed || b) (contains-without q p old.fired n) ∙ h))

module _ (q : Ptr) (key : Armed → ℕ) where
  swap : (a b c : Bool) → cond a true (cond b true c) ≡ cond b true (cond a true c)
  swap true true c = refl
  swap true false c = refl
  swap false true c = refl
  swap false false c = refl

  named-placed : (x : Armed) (ys : List Armed) → contains_id q (names_of (placed key x ys)) ≡ cond (same_ptr q x.timer) true (contains_id q (names_of ys))
  unfolding contains_id placed
  named-placed x [] = refl
  named-placed x (y ∷ ys) = by_key key x y
      (λ l. ap (λ r. contains_id q (names_of r)) (placed-later key x y ys l) ∙ ap (λ b. cond (same_ptr q y.timer) true b) (named-placed x ys) ∙ swap (same_ptr q y.timer) (same_ptr q x.timer) (contains_id q (names_of ys)))
      (λ l. ap (λ r. contains_id q (names_of r)) (placed-here key x y ys l))

  named-in_order : (xs : List Armed) → contains_id q (names_of (in_order key xs)) ≡ has_timer q xs
  unfolding contains_id has_timer in_order
  named-in_order [] = refl
  named-in_order (x ∷ xs) = named-placed x (in_order key xs) ∙ ap (λ b. cond (same_ptr q x.timer) true b) (named-in_order xs)

has-parts : (q : Ptr) (p : Armed → Bool) (xs : List Armed) → (has_timer q (filter (λ a. not (p a)) xs) || has_timer q (filter p xs)) ≡ has_timer q xs
unfolding has_timer
has-parts q p [] = refl
has-parts q p (x ∷ xs) = let on = has-parts q p xs in let A = has_timer q (filter (λ a. not (p a)) xs) in let B = has_timer q (filter p xs) in
    either (p x)
    (λ t. (λ i. has_timer q (cond (not (t i)) (x ∷ filter (λ a. not (p a)) xs) (filter (λ a. not (p a)) xs)) || has_timer q (cond (t i) (x ∷ filter p xs) (filter p xs)))
    ∙ elim (same_ptr q x.timer) as (λ b. (A || cond b true B) ≡ cond b true (A || B)) [ true ↦ or_true A | false ↦ refl ] ∙ ap (λ b. cond (same_ptr q x.timer) true b) on)
    (λ f. (λ i. has_timer q (cond (not (f i)) (x ∷ filter (λ a. not (p a)) xs) (filter (λ a. not (p a)) xs)) || has_timer q (cond (f i) (x ∷ filter p xs) (filter p xs)))
    ∙ elim (same_ptr q x.timer) as (λ b. (cond b true A || B) ≡ cond b true (A || B)) [ true ↦ refl | false ↦ refl ] ∙ ap (λ b. cond (same_ptr q x.timer) true b) on)

contains-append : (q : Ptr) (xs ys : List Ptr) → contains_id q (xs ++ ys) ≡ (contains_id q xs || contains_id q ys)
unfolding contains_id
contains-append q [] ys = refl
contains-append q (x ∷ xs) ys = ap (λ b. cond (same_ptr q x) true b) (contains-append q xs ys)
    ∙ elim (same_ptr q x) as (λ b. cond b true (contains_id q xs || contains_id q ys) ≡ (cond b true (contains_id q xs) || contains_id q ys)) [ true ↦ refl | false ↦ refl ]

either_way : (a b c : Bool) → ((a || b) || c) ≡ true → (a || (c || b)) ≡ true
either_way true b c h = refl
either_way false true c h = or_true c
either_way false false true h = refl
either_way false false false h = h

-- after `turn`
pub held-turn : (q : Ptr) (old new : Timing) (now : ℕ) → new ≡ record old { latest = now; armed = waiting_timers old.kinds old.state now old.armed; fired = old.fired ++ names_of (due_timers old.kinds old.state now old.armed) } → IsHeld q old → IsHeld q new
held-turn q old new now e h = subst (IsHeld q) (sym e)
    (ap (λ b. has_timer q (waiting_timers old.kinds old.state now old.armed) || b)
    (contains-append q old.fired (names_of (due_timers old.kinds old.state now old.armed)) ∙ ap (λ b. contains_id q old.fired || b) (named-in_order q (due_moment old.kinds old.state) (filter (is_due old.kinds old.state now) old.armed)))
    ∙ either_way (has_timer q (waiting_timers old.kinds old.state now old.armed)) (has_timer q (filter (is_due old.kinds old.state now) old.armed)) (contains_id q old.fired)
    (ap (λ b. b || contains_id q old.fired) (has-parts q (is_due old.kinds old.state now) old.armed) ∙ h))

-- no timers
pub none-held : (t : Timing) → AreHeld [] t
unfolding IsDistinct
none-held t = record { each = tt; apart = tt }

-- several timers
all_held : (old new : Timing) (ps : List Ptr) → ((q : Ptr) → IsHeld q old → IsHeld q new) → AllByRecursion (λ p. IsHeld p old) ps → AllByRecursion (λ p. IsHeld p new) ps
all_held old new [] f t = tt
all_held old new (p ∷ ps) f t = (f p t.0, all_held old new ps f t.1)

pub all-still : (old new : Timing) (ps : List Ptr) → ((q : Ptr) → IsHeld q old → IsHeld q new) → AreHeld ps old → AreHeld ps new
all-still old new ps f h = record { each = all_held old new ps f h.each; apart = h.apart }

off_new : (old : Timing) (p : Ptr) (ps : List Ptr) → ((q : Ptr) → IsHeld q old → same_ptr q p ≡ false) → AllByRecursion (λ q. IsHeld q old) ps → AllByRecursion (λ q. same_ptr p q ≡ false) ps
off_new old p [] f t = tt
off_new old p (q ∷ ps) f t = (same_ptr_symm p q ∙ f q t.0, off_new old p ps f t.1)

-- one more
pub all-more : (old new : Timing) (p : Ptr) (ps : List Ptr) → ((q : Ptr) → IsHeld q old → IsHeld q new) → ((q : Ptr) → IsHeld q old → same_ptr q p ≡ false) → IsHeld p new → AreHeld ps old → AreHeld (ps ++ p ∷ []) new
all-more old new p ps f g k h = record {
  each = all_both (λ q. IsHeld q new) ps (p ∷ []) (all_held old new ps f h.each) (k, tt);
  apart = with_one ps p [] (subst (AllByRecursion (λ q. same_ptr p q ≡ false)) (sym (append-nil ps)) (off_new old p ps g h.each)) (subst (IsDistinct same_ptr) (sym (append-nil ps)) h.apart);
}

each_other : (old new : Timing) (p : Ptr) (ps : List Ptr) → ((q : Ptr) → same_ptr q p ≡ false → IsHeld q old → IsHeld q new) → AllByRecursion (λ q. same_ptr p q ≡ false) ps → AllByRecursion (λ q. IsHeld q old) ps → AllByRecursion (λ q. IsHeld q new) ps
each_other old new p [] f n t = tt
each_other old new p (q ∷ ps) f n t = (f q (same_ptr_symm q p ∙ n.0) t.0, each_other old new p ps f n.1 t.1)

-- the first goes
pub first_held : (old : Timing) (p : Ptr) (ps : List Ptr) → AreHeld (p ∷ ps) old → IsHeld p old
first_held old p ps h = h.each.0

pub all-behind : (old new : Timing) (p : Ptr) (ps : List Ptr) → ((q : Ptr) → same_ptr q p ≡ false → IsHeld q old → IsHeld q new) → AreHeld (p ∷ ps) old → AreHeld ps new
unfolding IsDistinct
all-behind old new p ps f h = record { each = each_other old new p ps f h.apart.0 h.each.1; apart = h.apart.1 }

-- `disarm` leaves the kinds and the moment
pub disarm-same : (p : Ptr) (old new : Timing) → IsHeld p old → (has_timer p old.armed ≡ true → new ≡ record old { armed = without_timer p old.armed }) → (contains_id p old.fired ≡ true → new ≡ record old { fired = without_id p old.fired })
    → (new.kinds ≡ old.kinds) × (new.latest ≡ old.latest)
disarm-same p old new at f g = either (has_timer p old.armed)
    (λ t. (ap (λ (s : Timing). s.kinds) (f t), ap (λ (s : Timing). s.latest) (f t)))
    (λ k. let e = g (sym (ap (λ b. b || contains_id p old.fired) k) ∙ at) in (ap (λ (s : Timing). s.kinds) e, ap (λ (s : Timing). s.latest) e))

-- by the outcome of a call
pub by_outcome : {X E G A B : Type 0} (r : Result X E) → IfOk r (λ _. A) → OnErr r B → (A → G) → (B → G) → G
by_outcome (Ok x) a b f g = f a
by_outcome (Err e) a b f g = g b
