-- What is found by a key among armed timers.
use Rattle.std.proofs.Common.{◌≡◌, ℕ, Bool, true, false, cond, not, List, [], ◌∷◌, ◌++◌, map, filter, refl, sym, ap, ◌∙◌, subst, append-nil}
use Rattle.std.specs.Prelude.{Option, None, Some}
use Rattle.std.specs.List.{AllByRecursion, IsDistinct}
use Rattle.std.specs.Map.{lookup}
use denote.RawPtr.{Ptr}
use Rattle.link_lists.proofs.Memory.{either}
use Rattle.link_lists.proofs.Splits.{all_unmap}
use Rattle.scaled_timer.specs.Due.{Armed}
use Rattle.scaled_timer.specs.Order.{placed, in_order}
use Rattle.scaled_timer.proofs.Sorting.{by_key, placed-later, placed-here, all-in_order}
use Rattle.wire_timers.specs.Held.{Key, key_of, same_key, entries}
use Rattle.wire_timers.proofs.Keys.{same_symm, same_is}

abbrev pub look : Key → List Armed → Option Ptr
look q xs = lookup (same_key q) (entries xs)

-- no timer has the key
abbrev pub Differs : Key → List Armed → Type 0
Differs k xs = AllByRecursion (λ (a : Armed). same_key k (key_of a) ≡ false) xs

-- the timers of other keys
abbrev pub others : Key → List Armed → List Armed
others k xs = filter (λ a. not (same_key k (key_of a))) xs

-- two keys that aren't the same aren't both the key q
pub apart_from : (q j k : Key) → same_key j k ≡ false → same_key q j ≡ true → same_key q k ≡ false
apart_from q j k n t = ap (λ x. same_key x k) (same_is q j t) ∙ n

pub none-differs : (q : Key) (xs : List Armed) → look q xs ≡ None → Differs q xs
none-differs q [] h = tt
none-differs q (a ∷ xs) h = either (same_key q (key_of a))
    (λ t. absurd (let e : Some a.timer ≡ None = sym (ap (λ b. cond b (Some a.timer) (look q xs)) t) ∙ h in cc))
    (λ f. (f, none-differs q xs (sym (ap (λ b. cond b (Some a.timer) (look q xs)) f) ∙ h)))

pub all-others : (k : Key) (xs : List Armed) → Differs k xs → others k xs ≡ xs
all-others k [] h = refl
all-others k (a ∷ xs) h = ap (λ b. cond (not b) (a ∷ others k xs) (others k xs)) h.0 ∙ ap (λ l. a ∷ l) (all-others k xs h.1)

none_either_way : (b : Bool) → let none : Option Ptr = None in cond b none none ≡ none
none_either_way true = refl
none_either_way false = refl

-- what the other timers are found by
pub look-others : (k q : Key) (xs : List Armed) → look q (others k xs) ≡ cond (same_key k q) None (look q xs)
look-others k q [] = sym (none_either_way (same_key k q))
look-others k q (a ∷ xs) =
    let rest = look q xs in let on = look-others k q xs in
    either (same_key k (key_of a))
    (λ t. ap (λ b. look q (cond (not b) (a ∷ others k xs) (others k xs))) t ∙ on
    ∙ either (same_key k q)
    (λ s. ap (λ b. cond b None rest) s ∙ sym (ap (λ b. cond b None (cond (same_key q (key_of a)) (Some a.timer) rest)) s))
    (λ n. let away : same_key q (key_of a) ≡ false = ap (same_key q) (sym (same_is k (key_of a) t)) ∙ same_symm q k ∙ n in
    sym (ap (λ b. cond (same_key k q) None (cond b (Some a.timer) rest)) away)))
    (λ f. ap (λ b. look q (cond (not b) (a ∷ others k xs) (others k xs))) f
    ∙ ap (cond (same_key q (key_of a)) (Some a.timer)) on
    ∙ either (same_key k q)
    (λ s. let away : same_key q (key_of a) ≡ false = ap (λ x. same_key x (key_of a)) (sym (same_is k q s)) ∙ f in
    ap (λ b. cond b (Some a.timer) (cond (same_key k q) None rest)) away ∙ ap (λ b. cond b None rest) s ∙ sym (ap (λ b. cond b None (cond (same_key q (key_of a)) (Some a.timer) rest)) s))
    (λ n. ap (λ b. cond (same_key q (key_of a)) (Some a.timer) (cond b None rest)) n ∙ sym (ap (λ b. cond b None (cond (same_key q (key_of a)) (Some a.timer) rest)) n)))

-- one of two
swapped : (q j k : Key) (u v : Ptr) (rest : Option Ptr) → same_key j k ≡ false → cond (same_key q k) (Some v) (cond (same_key q j) (Some u) rest) ≡ cond (same_key q j) (Some u) (cond (same_key q k) (Some v) rest)
swapped q j k u v rest n = either (same_key q j)
    (λ t. ap (λ b. cond b (Some v) (cond (same_key q j) (Some u) rest)) (apart_from q j k n t)
    ∙ ap (λ b. cond b (Some u) rest) t ∙ sym (ap (λ b. cond b (Some u) (cond (same_key q k) (Some v) rest)) t))
    (λ f. ap (λ b. cond (same_key q k) (Some v) (cond b (Some u) rest)) f ∙ sym (ap (λ b. cond b (Some u) (cond (same_key q k) (Some v) rest)) f))

-- a timer whose key no other has is found wherever it stands
pub look-middle : (q : Key) (us : List Armed) (x : Armed) (vs : List Armed) → Differs (key_of x) us → look q (us ++ x ∷ vs) ≡ look q (x ∷ (us ++ vs))
look-middle q [] x vs h = refl
look-middle q (u ∷ us) x vs h = ap (cond (same_key q (key_of u)) (Some u.timer)) (look-middle q us x vs h.1)
    ∙ swapped q (key_of x) (key_of u) x.timer u.timer (look q (us ++ vs)) h.0

pub look-last : (q : Key) (xs : List Armed) (x : Armed) → Differs (key_of x) xs → look q (xs ++ x ∷ []) ≡ cond (same_key (key_of x) q) (Some x.timer) (look q xs)
look-last q xs x h = look-middle q xs x [] h ∙ ap (λ l. look q (x ∷ l)) (append-nil xs) ∙ ap (λ b. cond b (Some x.timer) (look q xs)) (same_symm q (key_of x))

look-placed : (k : Armed → ℕ) (q : Key) (x : Armed) (ys : List Armed) → Differs (key_of x) ys → look q (placed k x ys) ≡ look q (x ∷ ys)
unfolding placed
look-placed k q x [] h = refl
look-placed k q x (y ∷ ys) h = by_key k x y
    (λ l. ap (look q) (placed-later k x y ys l) ∙ ap (cond (same_key q (key_of y)) (Some y.timer)) (look-placed k q x ys h.1)
    ∙ swapped q (key_of x) (key_of y) x.timer y.timer (look q ys) h.0)
    (λ l. ap (look q) (placed-here k x y ys l))

module _ (k : Armed → ℕ) (q : Key) where
  pub look-in_order : (xs : List Armed) → IsDistinct same_key (map key_of xs) → look q (in_order k xs) ≡ look q xs
  unfolding in_order IsDistinct
  look-in_order [] d = refl
  look-in_order (x ∷ xs) d = look-placed k q x (in_order k xs) (all-in_order k (λ (a : Armed). same_key (key_of x) (key_of a) ≡ false) xs (all_unmap key_of (λ j. same_key (key_of x) j ≡ false) xs d.0))
      ∙ ap (cond (same_key q (key_of x)) (Some x.timer)) (look-in_order xs d.1)

pub all-filter : (p : Armed → Bool) (P : Armed → Type 0) (xs : List Armed) → AllByRecursion P xs → AllByRecursion P (filter p xs)
all-filter p P [] h = tt
all-filter p P (x ∷ xs) h = either (p x)
    (λ t. subst (λ b. AllByRecursion P (cond b (x ∷ filter p xs) (filter p xs))) (sym t) (h.0, all-filter p P xs h.1))
    (λ f. subst (λ b. AllByRecursion P (cond b (x ∷ filter p xs) (filter p xs))) (sym f) (all-filter p P xs h.1))

abbrev or_else : Option Ptr → Option Ptr → Option Ptr
or_else None o = o
or_else (Some p) o = Some p

cond-or_else : (b : Bool) (p : Ptr) (o w : Option Ptr) → cond b (Some p) (or_else o w) ≡ or_else (cond b (Some p) o) w
cond-or_else true p o w = refl
cond-or_else false p o w = refl

found_first : (q : Key) (us ws : List Armed) → look q (us ++ ws) ≡ or_else (look q us) (look q ws)
found_first q [] ws = refl
found_first q (u ∷ us) ws = ap (cond (same_key q (key_of u)) (Some u.timer)) (found_first q us ws) ∙ cond-or_else (same_key q (key_of u)) u.timer (look q us) (look q ws)

look-front : (q : Key) (us vs ws : List Armed) → look q us ≡ look q vs → look q (us ++ ws) ≡ look q (vs ++ ws)
look-front q us vs ws e = found_first q us ws ∙ ap (λ o. or_else o (look q ws)) e ∙ sym (found_first q vs ws)

module _ (p : Armed → Bool) (q : Key) where
  -- those that pass a test and those that don't are all of them
  look-halves : (xs : List Armed) → IsDistinct same_key (map key_of xs) → look q (filter p xs ++ filter (λ a. not (p a)) xs) ≡ look q xs
  unfolding IsDistinct
  look-halves [] d = refl
  look-halves (x ∷ xs) d =
      let yes = filter p xs in let no = filter (λ a. not (p a)) xs in
      let on : look q (yes ++ no) ≡ look q xs = look-halves xs d.1 in
      either (p x)
      (λ t. ap (λ b. look q (cond b (x ∷ yes) yes ++ cond (not b) (x ∷ no) no)) t ∙ ap (cond (same_key q (key_of x)) (Some x.timer)) on)
      (λ f. ap (λ b. look q (cond b (x ∷ yes) yes ++ cond (not b) (x ∷ no) no)) f
      ∙ look-middle q yes x no (all-filter p (λ (a : Armed). same_key (key_of x) (key_of a) ≡ false) xs (all_unmap key_of (λ j. same_key (key_of x) j ≡ false) xs d.0))
      ∙ ap (cond (same_key q (key_of x)) (Some x.timer)) on)

  pub look-parted : (k : Armed → ℕ) (xs : List Armed) → IsDistinct same_key (map key_of xs) → IsDistinct same_key (map key_of (filter p xs)) → look q (in_order k (filter p xs) ++ filter (λ a. not (p a)) xs) ≡ look q xs
  look-parted k xs d e = look-front q (in_order k (filter p xs)) (filter p xs) (filter (λ a. not (p a)) xs) (look-in_order k q (filter p xs) e) ∙ look-halves xs d
