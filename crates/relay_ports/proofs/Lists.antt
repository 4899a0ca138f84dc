-- The live connections of a memory form: what is seen of them, and what changes do.
use Rattle.relay_ports.specs.Memory.{AreMost, Rises, Tap, held_as, held_in, live_in, taps_after, without_tap}
use Rattle.std.proofs.Common.{ap, arith, refl, subst, sym, ◌∙◌}
use Rattle.std.proofs.lemmas.Bool.Decides.{nat_tests}
use Rattle.std.specs.BTreeMap.{insert_entry, is_at}
use Rattle.std.specs.List.{AllByRecursion, list_any}
use Rattle.std.specs.Map.{lookup, remove_entry, set_value}
use Rattle.std.specs.Ordering.{match_ordering, nat_cmp}
use Rattle.std.specs.Prelude.{Bool, List, None, Option, Some, [], cond, false, filter, if◌then◌else◌, is_some, length, map, nat_eq, nat_lt, not, suc, true, ℕ, ◌&&◌, ◌+◌, ◌++◌, ◌<◌, ◌||◌, ◌∷◌, ◌≡◌, ◌≤◌}
use Rattle.std.specs.declared.cmp.Ordering.{Ordering}
use Rattle.std.specs.declared.cmp.Ordering.TheVariants.{Equal, Greater, Less}
use Rattle.worker_ports.specs.Wires.{without}

-- ---- numbers
pub by_test : {A : Type 0} (b : Bool) → (b ≡ true → A) → (b ≡ false → A) → A
by_test true f g = f refl
by_test false f g = g refl

equal_is : (c d : ℕ) → nat_eq c d ≡ true → c ≡ d
equal_is c d e = grind (arith, nat_tests)

below_differs : (c d : ℕ) → c < d → nat_eq c d ≡ false
below_differs c d l = grind (arith, nat_tests)

turned : (c d : ℕ) → nat_eq c d ≡ false → nat_eq d c ≡ false
turned c d n = grind (arith, nat_tests)

pub not_both : {A : Type 0} (b : Bool) → b ≡ true → b ≡ false → A
not_both true e f = cc
not_both false e f = cc

-- how a number compares
compares_above : (c x : ℕ) → x < c → nat_cmp c x ≡ Greater
compares_above c x l =
    let below : nat_lt c x ≡ false = grind (arith, nat_tests) in
    let other : nat_eq c x ≡ false = grind (arith, nat_tests) in
    λ i. cond (below i) Less (cond (other i) Equal Greater)

at_is : (c x : ℕ) → is_at (nat_cmp c) x ≡ nat_eq c x
at_is c x = grind (arith, nat_tests)

-- ---- a connection among others
no_held_above : (c : ℕ) (taps : List Tap) → AllByRecursion (λ (t : Tap). c < t.0) taps → list_any (nat_eq c) (held_in taps) ≡ false
no_held_above c [] a = refl
no_held_above c ((n, false) ∷ taps) a = no_held_above c taps a.1
no_held_above c ((n, true) ∷ taps) a = ap (λ b. b || list_any (nat_eq c) (held_in taps)) (below_differs c n a.0) ∙ no_held_above c taps a.1

pub some_live : (c : ℕ) (taps : List Tap) → is_some (lookup (is_at (nat_cmp c)) taps) ≡ list_any (nat_eq c) (live_in taps)
some_live c [] = refl
some_live c (t ∷ taps) = by_test (nat_eq c t.0)
    (λ e. ap (λ b. is_some (cond b (Some t.1) (lookup (is_at (nat_cmp c)) taps))) (at_is c t.0 ∙ e) ∙ sym (ap (λ b. b || list_any (nat_eq c) (live_in taps)) e))
    (λ n. ap (λ b. is_some (cond b (Some t.1) (lookup (is_at (nat_cmp c)) taps))) (at_is c t.0 ∙ n) ∙ some_live c taps
    ∙ sym (ap (λ b. b || list_any (nat_eq c) (live_in taps)) n))

abbrev pub or_not : Option Bool → Bool
or_not None = false
or_not (Some b) = b

held_head : (c n : ℕ) (b : Bool) (taps : List Tap) → list_any (nat_eq c) (held_in ((n, b) ∷ taps)) ≡ ((b && nat_eq c n) || list_any (nat_eq c) (held_in taps))
held_head c n true taps = refl
held_head c n false taps = refl

pub held_found : (c : ℕ) (taps : List Tap) → Rises taps → or_not (lookup (is_at (nat_cmp c)) taps) ≡ list_any (nat_eq c) (held_in taps)
held_found c [] r = refl
held_found c ((n, b) ∷ taps) r = by_test (nat_eq c n)
    (λ e. ap (λ x. or_not (cond x (Some b) (lookup (is_at (nat_cmp c)) taps))) (at_is c n ∙ e)
    ∙ and_or b (nat_eq c n) (list_any (nat_eq c) (held_in taps)) e
    (no_held_above c taps (subst (λ m. AllByRecursion (λ (t : Tap). m < t.0) taps) (sym (equal_is c n e)) r.0))
    ∙ sym (held_head c n b taps))
    (λ k. ap (λ x. or_not (cond x (Some b) (lookup (is_at (nat_cmp c)) taps))) (at_is c n ∙ k) ∙ held_found c taps r.1
    ∙ or_and b (nat_eq c n) (list_any (nat_eq c) (held_in taps)) k ∙ sym (held_head c n b taps))
  where
    and_or : (a x y : Bool) → x ≡ true → y ≡ false → a ≡ ((a && x) || y)
    and_or true x y e f = sym (ap (λ z. z || y) e)
    and_or false x y e f = sym f

    or_and : (a x y : Bool) → x ≡ false → y ≡ ((a && x) || y)
    or_and true x y e = sym (ap (λ z. z || y) e)
    or_and false x y e = refl

-- live, and not held
pub free_found : (c : ℕ) (taps : List Tap) → Rises taps
    → (is_some (lookup (is_at (nat_cmp c)) taps) && not (or_not (lookup (is_at (nat_cmp c)) taps))) ≡ (list_any (nat_eq c) (live_in taps) && not (list_any (nat_eq c) (held_in taps)))
free_found c taps r = λ i. some_live c taps i && not (held_found c taps r i)

-- ---- one more
pub live_more : (c : ℕ) (taps : List Tap) → live_in (taps ++ (c, false) ∷ []) ≡ live_in taps ++ c ∷ []
live_more c [] = refl
live_more c (t ∷ taps) = ap (λ v. t.0 ∷ v) (live_more c taps)

pub held_more : (c : ℕ) (taps : List Tap) → held_in (taps ++ (c, false) ∷ []) ≡ held_in taps
held_more c [] = refl
held_more c ((n, true) ∷ taps) = ap (λ v. n ∷ v) (held_more c taps)
held_more c ((n, false) ∷ taps) = held_more c taps

pub insert_last : (c : ℕ) (b : Bool) (taps : List Tap) → AllByRecursion (λ (t : Tap). t.0 < c) taps → insert_entry nat_cmp taps c b ≡ taps ++ (c, b) ∷ []
insert_last c b [] a = refl
insert_last c b (t ∷ taps) a =
    ap (λ o. match_ordering o ((c, b) ∷ t ∷ taps) ((t.0, b) ∷ taps) (t ∷ insert_entry nat_cmp taps c b)) (compares_above c t.0 a.0)
    ∙ ap (λ v. t ∷ v) (insert_last c b taps a.1)

all_last : (m c : ℕ) (b : Bool) (taps : List Tap) → AllByRecursion (λ (t : Tap). m < t.0) taps → m < c → AllByRecursion (λ (t : Tap). m < t.0) (taps ++ (c, b) ∷ [])
all_last m c b [] a l = (l, tt)
all_last m c b (t ∷ taps) a l = (a.0, all_last m c b taps a.1 l)

pub rises_more : (c : ℕ) (b : Bool) (taps : List Tap) → Rises taps → AllByRecursion (λ (t : Tap). t.0 < c) taps → Rises (taps ++ (c, b) ∷ [])
rises_more c b [] r a = (tt, tt)
rises_more c b (t ∷ taps) r a = (all_last t.0 c b taps r.0 a.0, rises_more c b taps r.1 a.1)

pub below_more : (g c : ℕ) (b : Bool) (taps : List Tap) → AllByRecursion (λ (t : Tap). t.0 ≤ g) taps → g < c → AllByRecursion (λ (t : Tap). t.0 ≤ c) (taps ++ (c, b) ∷ [])
below_more g c b [] a l = (omega arith, tt)
below_more g c b (t ∷ taps) a l = (lifted t.0 a.0, below_more g c b taps a.1 l)
  where
    lifted : (x : ℕ) → x ≤ g → x ≤ c
    lifted x k = omega arith

pub all_below : (g c : ℕ) (taps : List Tap) → AllByRecursion (λ (t : Tap). t.0 ≤ g) taps → g < c → AllByRecursion (λ (t : Tap). t.0 < c) taps
all_below g c [] a l = tt
all_below g c (t ∷ taps) a l = (strict t.0 a.0, all_below g c taps a.1 l)
  where
    strict : (x : ℕ) → x ≤ g → x < c
    strict x k = omega arith

-- ---- one less
filter_rest : (c : ℕ) (taps : List Tap) → AllByRecursion (λ (t : Tap). c < t.0) taps → without_tap c taps ≡ taps
filter_rest c [] a = refl
filter_rest c (t ∷ taps) a = ap (λ b. cond (not b) (t ∷ without_tap c taps) (without_tap c taps)) (below_differs c t.0 a.0) ∙ ap (λ v. t ∷ v) (filter_rest c taps a.1)

pub remove_rest : (c : ℕ) (taps : List Tap) → Rises taps → remove_entry (is_at (nat_cmp c)) taps ≡ without_tap c taps
remove_rest c [] r = refl
remove_rest c (t ∷ taps) r = by_test (nat_eq c t.0)
    (λ e. ap (λ b. cond b taps (t ∷ remove_entry (is_at (nat_cmp c)) taps)) (at_is c t.0 ∙ e)
    ∙ sym (filter_rest c taps (subst (λ m. AllByRecursion (λ (u : Tap). m < u.0) taps) (sym (equal_is c t.0 e)) r.0))
    ∙ sym (ap (λ b. cond (not b) (t ∷ without_tap c taps) (without_tap c taps)) e))
    (λ n. ap (λ b. cond b taps (t ∷ remove_entry (is_at (nat_cmp c)) taps)) (at_is c t.0 ∙ n) ∙ ap (λ v. t ∷ v) (remove_rest c taps r.1)
    ∙ sym (ap (λ b. cond (not b) (t ∷ without_tap c taps) (without_tap c taps)) n))

live_if : (b : Bool) (t : Tap) (taps : List Tap) → live_in (cond b (t ∷ taps) taps) ≡ cond b (t.0 ∷ live_in taps) (live_in taps)
live_if true t taps = refl
live_if false t taps = refl

pub live_less : (c : ℕ) (taps : List Tap) → live_in (without_tap c taps) ≡ without c (live_in taps)
live_less c [] = refl
live_less c (t ∷ taps) = live_if (not (nat_eq c t.0)) t (without_tap c taps) ∙ ap (λ v. cond (not (nat_eq c t.0)) (t.0 ∷ v) v) (live_less c taps)

held_if : (b : Bool) (t : Tap) (taps : List Tap) → held_in (cond b (t ∷ taps) taps) ≡ cond b (held_in (t ∷ taps)) (held_in taps)
held_if true t taps = refl
held_if false t taps = refl

pub held_less : (c : ℕ) (taps : List Tap) → held_in (without_tap c taps) ≡ without c (held_in taps)
held_less c [] = refl
held_less c ((n, true) ∷ taps) = held_if (not (nat_eq c n)) (n, true) (without_tap c taps) ∙ ap (λ v. cond (not (nat_eq c n)) (n ∷ v) v) (held_less c taps)
held_less c ((n, false) ∷ taps) = held_if (not (nat_eq c n)) (n, false) (without_tap c taps) ∙ both (not (nat_eq c n)) (held_in (without_tap c taps)) ∙ held_less c taps
  where
    both : (b : Bool) (v : List ℕ) → cond b v v ≡ v
    both true v = refl
    both false v = refl

all_if : (P : Tap → Type 0) (b : Bool) (t : Tap) (taps : List Tap) → P t → AllByRecursion P taps → AllByRecursion P (cond b (t ∷ taps) taps)
all_if P true t taps p a = (p, a)
all_if P false t taps p a = a

pub all_less : (P : Tap → Type 0) (c : ℕ) (taps : List Tap) → AllByRecursion P taps → AllByRecursion P (without_tap c taps)
all_less P c [] a = tt
all_less P c (t ∷ taps) a = all_if P (not (nat_eq c t.0)) t (without_tap c taps) a.0 (all_less P c taps a.1)

rises_if : (b : Bool) (t : Tap) (taps : List Tap) → AllByRecursion (λ (u : Tap). t.0 < u.0) taps → Rises taps → Rises (cond b (t ∷ taps) taps)
rises_if true t taps a r = (a, r)
rises_if false t taps a r = r

pub rises_less : (c : ℕ) (taps : List Tap) → Rises taps → Rises (without_tap c taps)
rises_less c [] r = tt
rises_less c (t ∷ taps) r = rises_if (not (nat_eq c t.0)) t (without_tap c taps) (all_less (λ (u : Tap). t.0 < u.0) c taps r.0) (rises_less c taps r.1)

length_if : (b : Bool) (t : Tap) (taps : List Tap) → length (cond b (t ∷ taps) taps) ≤ suc (length taps)
length_if true t taps = omega arith
length_if false t taps = omega arith

pub shorter_less : (c : ℕ) (taps : List Tap) → length (without_tap c taps) ≤ length taps
shorter_less c [] = omega arith
shorter_less c (t ∷ taps) =
    let i : length (without_tap c taps) ≤ length taps = shorter_less c taps in
    let k : length (cond (not (nat_eq c t.0)) (t ∷ without_tap c taps) (without_tap c taps)) ≤ suc (length (without_tap c taps)) = length_if (not (nat_eq c t.0)) t (without_tap c taps) in
    omega arith

-- one that was there is gone
pub less_one : (c : ℕ) (taps : List Tap) → list_any (nat_eq c) (live_in taps) ≡ true → suc (length (without_tap c taps)) ≤ length taps
less_one c [] e = cc
less_one c (t ∷ taps) e = by_test (nat_eq c t.0)
    (λ s. let i : length (without_tap c taps) ≤ length taps = shorter_less c taps in
    let k : length (cond (not (nat_eq c t.0)) (t ∷ without_tap c taps) (without_tap c taps)) ≡ length (without_tap c taps) = ap (λ b. length (cond (not b) (t ∷ without_tap c taps) (without_tap c taps))) s in
    omega arith)
    (λ n. let i : suc (length (without_tap c taps)) ≤ length taps = less_one c taps (sym (ap (λ b. b || list_any (nat_eq c) (live_in taps)) n) ∙ e) in
    let k : length (cond (not (nat_eq c t.0)) (t ∷ without_tap c taps) (without_tap c taps)) ≤ suc (length (without_tap c taps)) = length_if (not (nat_eq c t.0)) t (without_tap c taps) in
    omega arith)

-- one that isn't there leaves all
pub less_none : (c : ℕ) (taps : List Tap) → list_any (nat_eq c) (live_in taps) ≡ false → without_tap c taps ≡ taps
less_none c [] e = refl
less_none c (t ∷ taps) e =
    let n : nat_eq c t.0 ≡ false = left (nat_eq c t.0) (list_any (nat_eq c) (live_in taps)) e in
    let m : list_any (nat_eq c) (live_in taps) ≡ false = right (nat_eq c t.0) (list_any (nat_eq c) (live_in taps)) e in
    ap (λ b. cond (not b) (t ∷ without_tap c taps) (without_tap c taps)) n ∙ ap (λ v. t ∷ v) (less_none c taps m)
  where
    left : (a b : Bool) → (a || b) ≡ false → a ≡ false
    left true b x = cc
    left false b x = refl

    right : (a b : Bool) → (a || b) ≡ false → b ≡ false
    right true b x = cc
    right false b x = x

-- ---- one is held, or isn't any more
held_rest : (c : ℕ) (h : Bool) (taps : List Tap) → AllByRecursion (λ (t : Tap). c < t.0) taps → held_as c h taps ≡ taps
held_rest c h [] a = refl
held_rest c h (t ∷ taps) a = (λ i. (if below_differs c t.0 a.0 i then (t.0, h) else t) ∷ held_rest c h taps a.1 i)

pub set_held : (c : ℕ) (h : Bool) (taps : List Tap) → Rises taps → set_value (is_at (nat_cmp c)) taps h ≡ held_as c h taps
set_held c h [] r = refl
set_held c h (t ∷ taps) r = by_test (nat_eq c t.0)
    (λ s. ap (λ b. cond b ((t.0, h) ∷ taps) (t ∷ set_value (is_at (nat_cmp c)) taps h)) (at_is c t.0 ∙ s)
    ∙ sym (λ i. (if s i then (t.0, h) else t) ∷ held_rest c h taps (subst (λ m. AllByRecursion (λ (u : Tap). m < u.0) taps) (sym (equal_is c t.0 s)) r.0) i))
    (λ n. ap (λ b. cond b ((t.0, h) ∷ taps) (t ∷ set_value (is_at (nat_cmp c)) taps h)) (at_is c t.0 ∙ n)
    ∙ ap (λ v. t ∷ v) (set_held c h taps r.1) ∙ sym (ap (λ b. (if b then (t.0, h) else t) ∷ held_as c h taps) n))

key_if : (b h : Bool) (t : Tap) → (if b then (t.0, h) else t).0 ≡ t.0
key_if true h t = refl
key_if false h t = refl

pub live_as : (c : ℕ) (h : Bool) (taps : List Tap) → live_in (held_as c h taps) ≡ live_in taps
live_as c h [] = refl
live_as c h (t ∷ taps) = λ i. key_if (nat_eq c t.0) h t i ∷ live_as c h taps i

all_as : (P : ℕ → Type 0) (c : ℕ) (h : Bool) (taps : List Tap) → AllByRecursion (λ (t : Tap). P t.0) taps → AllByRecursion (λ (t : Tap). P t.0) (held_as c h taps)
all_as P c h [] a = tt
all_as P c h (t ∷ taps) a = (subst P (sym (key_if (nat_eq c t.0) h t)) a.0, all_as P c h taps a.1)

pub below_as : (g c : ℕ) (h : Bool) (taps : List Tap) → AllByRecursion (λ (t : Tap). t.0 ≤ g) taps → AllByRecursion (λ (t : Tap). t.0 ≤ g) (held_as c h taps)
below_as g c h taps a = all_as (λ n. n ≤ g) c h taps a

pub rises_as : (c : ℕ) (h : Bool) (taps : List Tap) → Rises taps → Rises (held_as c h taps)
rises_as c h [] r = tt
rises_as c h (t ∷ taps) r = (subst (λ m. AllByRecursion (λ (u : Tap). m < u.0) (held_as c h taps)) (sym (key_if (nat_eq c t.0) h t)) (all_as (λ n. t.0 < n) c h taps r.0), rises_as c h taps r.1)

-- which are held then
abbrev tap : ℕ → Bool → Tap
tap n b = (n, b)

tap_is : (b : Bool) (n : ℕ) (x y : Bool) → (if b then tap n x else tap n y) ≡ tap n (if b then x else y)
tap_is true n x y = refl
tap_is false n x y = refl

module _ (c : ℕ) (h : Bool) where
  held_step : (d n : ℕ) (b : Bool) (taps : List Tap)
      → list_any (nat_eq d) (held_in (held_as c h ((n, b) ∷ taps))) ≡ (((if nat_eq c n then h else b) && nat_eq d n) || list_any (nat_eq d) (held_in (held_as c h taps)))
  held_step d n b taps =
      ap (λ (t : Tap). list_any (nat_eq d) (held_in (t ∷ held_as c h taps))) (tap_is (nat_eq c n) n h b)
      ∙ held_head d n (if nat_eq c n then h else b) (held_as c h taps)

  none_of : (x r : Bool) → ((x && false) || r) ≡ r
  none_of true r = refl
  none_of false r = refl

  pub held_other : (d : ℕ) (taps : List Tap) → nat_eq c d ≡ false → list_any (nat_eq d) (held_in (held_as c h taps)) ≡ list_any (nat_eq d) (held_in taps)
  held_other d [] k = refl
  held_other d ((n, b) ∷ taps) k =
      held_step d n b taps
      ∙ ap (λ r. ((if nat_eq c n then h else b) && nat_eq d n) || r) (held_other d taps k)
      ∙ by_test (nat_eq c n)
      (λ s. let m : nat_eq d n ≡ false = turned n d (ap (λ x. nat_eq x d) (sym (equal_is c n s)) ∙ k) in
      ap (λ x. ((if nat_eq c n then h else b) && x) || list_any (nat_eq d) (held_in taps)) m ∙ none_of (if nat_eq c n then h else b) (list_any (nat_eq d) (held_in taps))
      ∙ sym (ap (λ x. (b && x) || list_any (nat_eq d) (held_in taps)) m ∙ none_of b (list_any (nat_eq d) (held_in taps))))
      (λ e. ap (λ x. ((if x then h else b) && nat_eq d n) || list_any (nat_eq d) (held_in taps)) e)
      ∙ sym (held_head d n b taps)

  pub held_here : (taps : List Tap) → list_any (nat_eq c) (held_in (held_as c h taps)) ≡ (h && list_any (nat_eq c) (live_in taps))
  held_here [] = sym (no_and h)
    where
      no_and : (x : Bool) → (x && false) ≡ false
      no_and true = refl
      no_and false = refl
  held_here ((n, b) ∷ taps) =
      held_step c n b taps
      ∙ ap (λ r. ((if nat_eq c n then h else b) && nat_eq c n) || r) (held_here taps)
      ∙ by_test (nat_eq c n)
      (λ s. ap (λ x. ((if x then h else b) && x) || (h && list_any (nat_eq c) (live_in taps))) s ∙ one h (list_any (nat_eq c) (live_in taps))
      ∙ sym (ap (λ x. h && (x || list_any (nat_eq c) (live_in taps))) s))
      (λ e. ap (λ x. ((if x then h else b) && x) || (h && list_any (nat_eq c) (live_in taps))) e ∙ none_of b (h && list_any (nat_eq c) (live_in taps))
      ∙ sym (ap (λ x. h && (x || list_any (nat_eq c) (live_in taps))) e))
    where
      one : (x r : Bool) → ((x && true) || (x && r)) ≡ (x && true)
      one true r = refl
      one false r = refl

  pub as_none : (taps : List Tap) → list_any (nat_eq c) (live_in taps) ≡ false → held_as c h taps ≡ taps
  as_none [] e = refl
  as_none (t ∷ taps) e =
      λ i. (if left (nat_eq c t.0) (list_any (nat_eq c) (live_in taps)) e i then (t.0, h) else t) ∷ as_none taps (right (nat_eq c t.0) (list_any (nat_eq c) (live_in taps)) e) i
    where
      left : (a b : Bool) → (a || b) ≡ false → a ≡ false
      left true b x = cc
      left false b x = refl

      right : (a b : Bool) → (a || b) ≡ false → b ≡ false
      right true b x = cc
      right false b x = x

-- ---- as the calls need it
pub length_more : (c : ℕ) (b : Bool) (taps : List Tap) → length (taps ++ (c, b) ∷ []) ≡ length taps + 1
length_more c b [] = refl
length_more c b (t ∷ taps) = let i : length (taps ++ (c, b) ∷ []) ≡ length taps + 1 = length_more c b taps in omega arith

pub most_more : (c : ℕ) (b : Bool) (taps : List Tap) → AllByRecursion (λ (t : Tap). t.0 < c) taps → AreMost c (taps ++ (c, b) ∷ [])
most_more c b [] a = (no_less c, tt)
  where
    no_less : (x : ℕ) → x ≤ x
    no_less x = omega arith
most_more c b (t ∷ taps) a = (lower t.0 a.0, most_more c b taps a.1)
  where
    lower : (x : ℕ) → x < c → x ≤ c
    lower x k = omega arith

pub shorter : (c : ℕ) (taps : List Tap) (b : Bool) → b ≡ list_any (nat_eq c) (live_in taps) → length (without_tap c taps) + (if b then 1 else 0) ≤ length taps
shorter c taps true e = let k : suc (length (without_tap c taps)) ≤ length taps = less_one c taps (sym e) in omega arith
shorter c taps false e = let k : length (without_tap c taps) ≤ length taps = shorter_less c taps in omega arith

pub set_none : (c : ℕ) (h : Bool) (taps : List Tap) → Rises taps → lookup (is_at (nat_cmp c)) taps ≡ None → held_as c h taps ≡ taps
set_none c h taps r n = as_none c h taps (sym (some_live c taps) ∙ ap (λ (o : Option Bool). is_some o) n)
