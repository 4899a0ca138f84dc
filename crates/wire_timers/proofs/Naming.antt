-- The timer that a token names is the one that its key finds.
use Rattle.std.proofs.Common.{◌≡◌, Bool, true, false, cond, not, List, [], ◌∷◌, ◌++◌, map, refl, sym, ap, ◌∙◌, subst}
use Rattle.std.specs.Prelude.{None, Some}
use Rattle.std.specs.List.{AllByRecursion, IsDistinct}
use denote.RawPtr.{Ptr}
use Rattle.link_lists.specs.Places.{same_ptr}
use Rattle.link_lists.proofs.Memory.{either, same_ptr_refl}
use Rattle.link_lists.proofs.Edges.{same_ptr_symm}
use Rattle.link_lists.proofs.Splits.{all_unmap}
use Rattle.scaled_timer.specs.Due.{Armed}
use Rattle.scaled_timer.specs.Timing.{has_timer, without_timer, names_of}
use Rattle.wire_timers.specs.Held.{Key, key_of, same_key}
use Rattle.wire_timers.proofs.Keys.{same_is}
use Rattle.wire_timers.proofs.Finding.{look, others, all-others}

pub some_is : (p q : Ptr) → Some p ≡ Some q → p ≡ q
some_is p q e = cc

always : (b : Bool) → cond b true true ≡ true
always true = refl
always false = refl

same_apart : (q j : Key) (xs : List Armed) → same_key q j ≡ true → AllByRecursion (λ (a : Armed). same_key j (key_of a) ≡ false) xs → AllByRecursion (λ (a : Armed). same_key q (key_of a) ≡ false) xs
same_apart q j [] t h = tt
same_apart q j (a ∷ xs) t h = (ap (λ x. same_key x (key_of a)) (same_is q j t) ∙ h.0, same_apart q j xs t h.1)

-- what holds of each name holds of one that is found
found_has : (P : Ptr → Type 0) (q : Key) (p : Ptr) (xs : List Armed) → AllByRecursion P (names_of xs) → look q xs ≡ Some p → P p
found_has P q p [] h e = absurd (let n : None ≡ Some p = e in cc)
found_has P q p (a ∷ xs) h e = either (same_key q (key_of a))
    (λ t. subst P (some_is a.timer p (sym (ap (λ b. cond b (Some a.timer) (look q xs)) t) ∙ e)) h.0)
    (λ f. found_has P q p xs h.1 (sym (ap (λ b. cond b (Some a.timer) (look q xs)) f) ∙ e))

pub there : (q : Key) (p : Ptr) (xs : List Armed) → look q xs ≡ Some p → has_timer p xs ≡ true
unfolding has_timer
there q p [] e = absurd (let n : None ≡ Some p = e in cc)
there q p (a ∷ xs) e = either (same_key q (key_of a))
    (λ t. let here = some_is a.timer p (sym (ap (λ b. cond b (Some a.timer) (look q xs)) t) ∙ e) in
    ap (λ b. cond b true (has_timer p xs)) (ap (same_ptr p) here ∙ same_ptr_refl p))
    (λ f. ap (cond (same_ptr p a.timer) true) (there q p xs (sym (ap (λ b. cond b (Some a.timer) (look q xs)) f) ∙ e)) ∙ always (same_ptr p a.timer))

pub without-is : (q : Key) (p : Ptr) (xs : List Armed) → IsDistinct same_key (map key_of xs) → IsDistinct same_ptr (names_of xs) → look q xs ≡ Some p → without_timer p xs ≡ others q xs
unfolding without_timer IsDistinct
without-is q p [] d n e = refl
without-is q p (a ∷ xs) d n e = either (same_key q (key_of a))
    (λ t. let here = some_is a.timer p (sym (ap (λ b. cond b (Some a.timer) (look q xs)) t) ∙ e) in
    ap (λ b. cond b xs (a ∷ without_timer p xs)) (ap (same_ptr p) here ∙ same_ptr_refl p)
    ∙ sym (all-others q xs (same_apart q (key_of a) xs t (all_unmap key_of (λ j. same_key (key_of a) j ≡ false) xs d.0)))
    ∙ sym (ap (λ b. cond (not b) (a ∷ others q xs) (others q xs)) t))
    (λ f. let rest = sym (ap (λ b. cond b (Some a.timer) (look q xs)) f) ∙ e in
    ap (λ b. cond b xs (a ∷ without_timer p xs)) (same_ptr_symm p a.timer ∙ found_has (λ u. same_ptr a.timer u ≡ false) q p xs n.0 rest)
    ∙ ap (λ l. a ∷ l) (without-is q p xs d.1 n.1 rest)
    ∙ sym (ap (λ b. cond (not b) (a ∷ others q xs) (others q xs)) f))

-- a timer that is armed is named before the ones behind it
pub without-front : (p : Ptr) (xs ys : List Armed) → has_timer p xs ≡ true → without_timer p (xs ++ ys) ≡ without_timer p xs ++ ys
unfolding has_timer without_timer
without-front p [] ys h = absurd (let n : false ≡ true = h in cc)
without-front p (x ∷ xs) ys h = either (same_ptr p x.timer)
    (λ t. ap (λ b. cond b (xs ++ ys) (x ∷ without_timer p (xs ++ ys))) t ∙ sym (ap (λ b. cond b xs (x ∷ without_timer p xs) ++ ys) t))
    (λ f. ap (λ b. cond b (xs ++ ys) (x ∷ without_timer p (xs ++ ys))) f
    ∙ ap (λ l. x ∷ l) (without-front p xs ys (sym (ap (λ b. cond b true (has_timer p xs)) f) ∙ h))
    ∙ sym (ap (λ b. cond b xs (x ∷ without_timer p xs) ++ ys) f))

pub has-front : (p : Ptr) (xs ys : List Armed) → has_timer p xs ≡ true → has_timer p (xs ++ ys) ≡ true
unfolding has_timer
has-front p [] ys h = absurd (let n : false ≡ true = h in cc)
has-front p (x ∷ xs) ys h = either (same_ptr p x.timer)
    (λ t. ap (λ b. cond b true (has_timer p (xs ++ ys))) t)
    (λ f. ap (λ b. cond b true (has_timer p (xs ++ ys))) f ∙ has-front p xs ys (sym (ap (λ b. cond b true (has_timer p xs)) f) ∙ h))

-- no timer has the name
pub unnamed : (p : Ptr) (xs : List Armed) → has_timer p xs ≡ false → AllByRecursion (λ (a : Armed). same_ptr p a.timer ≡ false) xs
unfolding has_timer
unnamed p [] h = tt
unnamed p (x ∷ xs) h = either (same_ptr p x.timer)
    (λ t. absurd (let n : true ≡ false = sym (ap (λ b. cond b true (has_timer p xs)) t) ∙ h in cc))
    (λ f. (f, unnamed p xs (sym (ap (λ b. cond b true (has_timer p xs)) f) ∙ h)))
