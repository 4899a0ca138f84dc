-- Finite maps by number: what is found in them, and the entries that make them.
use Rattle.number_set.proofs.Tests.{at_eq}
use Rattle.number_set.specs.NumberMap.{IsSorted}
use Rattle.std.proofs.Common.{ap, arith, refl, sym, ◌∙◌}
use Rattle.std.proofs.lemmas.Bool.Decides.{nat_tests}
use Rattle.std.proofs.lemmas.Map.Keys.{IsDistinct-from_sorted}
use Rattle.std.specs.BTreeMap.{is_at}
use Rattle.std.specs.Cmp.{nat_cmp_total}
use Rattle.std.specs.FinMap.{FinMap, contains_key, from_entries, get, get-from_entries, get-insert, get-remove, insert, len, len-empty, len-insert, nat_cmp-IsAntisymmetric, remove, same_map}
use Rattle.std.specs.FinMap.Entries.{find}
use Rattle.std.specs.List.{AllByRecursion, IsDistinct}
use Rattle.std.specs.Map.{keys_of, lookup}
use Rattle.std.specs.Ordering.{eq_by_cmp, nat_cmp}
use Rattle.std.specs.Prelude.{Bool, List, None, Some, [], cond, false, is_some, length, nat_eq, true, ℕ, ◌+◌, ◌∷◌, ◌≡◌}

pub eq_by_number : (x y : ℕ) → eq_by_cmp nat_cmp x y ≡ nat_eq x y
eq_by_number x y = grind (arith, nat_tests)

pub turned : (x y : ℕ) → nat_eq x y ≡ nat_eq y x
turned x y = grind (arith, nat_tests)

pub here : (k : ℕ) → nat_eq k k ≡ true
here k = grind (arith, nat_tests)

module _ {X : Type 0} where
  -- ---- what is found
  pub get_insert : (m : FinMap nat_cmp X) (k : ℕ) (v : X) (q : ℕ) → get (insert m k v) q ≡ cond (nat_eq k q) (Some v) (get m q)
  get_insert m k v q = get-insert nat_cmp_total m k v q ∙ ap (λ b. cond b (Some v) (get m q)) (eq_by_number q k ∙ turned q k)

  pub get_remove : (m : FinMap nat_cmp X) (k q : ℕ) → get (remove m k) q ≡ cond (nat_eq k q) None (get m q)
  get_remove m k q = get-remove nat_cmp_total m k q ∙ ap (λ b. cond b None (get m q)) (eq_by_number q k ∙ turned q k)

  pub get_here : (m : FinMap nat_cmp X) (k : ℕ) (v : X) → get (insert m k v) k ≡ Some v
  get_here m k v = get_insert m k v k ∙ ap (λ b. cond b (Some v) (get m k)) (here k)

  pub get_gone : (m : FinMap nat_cmp X) (k : ℕ) → get (remove m k) k ≡ None
  get_gone m k = get_remove m k k ∙ ap (λ b. cond b None (get m k)) (here k)

  pub same : (m n : FinMap nat_cmp X) → ((q : ℕ) → get m q ≡ get n q) → m ≡ n
  same m n is = same_map nat_cmp_total nat_cmp-IsAntisymmetric m n is

  -- what is there is put back
  pub put_back : (m : FinMap nat_cmp X) (k : ℕ) (v : X) → get m k ≡ Some v → insert (remove m k) k v ≡ m
  put_back m k v there = same (insert (remove m k) k v) m (λ q. get_insert (remove m k) k v q ∙ ap (cond (nat_eq k q) (Some v)) (get_remove m k q) ∙ at q (nat_eq k q) refl)
    where
      at : (q : ℕ) (b : Bool) → nat_eq k q ≡ b → cond b (Some v) (cond b None (get m q)) ≡ get m q
      at q true e = let is : k ≡ q = grind (arith, nat_tests) in sym there ∙ ap (get m) is
      at q false e = refl

  pub remove_absent : (m : FinMap nat_cmp X) (k : ℕ) → get m k ≡ None → remove m k ≡ m
  remove_absent m k none = same (remove m k) m (λ q. get_remove m k q ∙ at q (nat_eq k q) refl)
    where
      at : (q : ℕ) (b : Bool) → nat_eq k q ≡ b → cond b None (get m q) ≡ get m q
      at q true e = let is : k ≡ q = grind (arith, nat_tests) in sym none ∙ ap (get m) is
      at q false e = refl

  pub insert_twice : (m : FinMap nat_cmp X) (k : ℕ) (v w : X) → insert (insert m k v) k w ≡ insert m k w
  insert_twice m k v w = same (insert (insert m k v) k w) (insert m k w) (λ q. get_insert (insert m k v) k w q ∙ ap (cond (nat_eq k q) (Some w)) (get_insert m k v q) ∙ at q (nat_eq k q) ∙ sym (get_insert m k w q))
    where
      at : (q : ℕ) (b : Bool) → cond b (Some w) (cond b (Some v) (get m q)) ≡ cond b (Some w) (get m q)
      at q true = refl
      at q false = refl

  -- a value that is put where it is changes nothing
  pub put_same : (m : FinMap nat_cmp X) (k : ℕ) (v : X) → get m k ≡ Some v → insert m k v ≡ m
  put_same m k v there = same (insert m k v) m (λ q. get_insert m k v q ∙ at q (nat_eq k q) refl)
    where
      at : (q : ℕ) (b : Bool) → nat_eq k q ≡ b → cond b (Some v) (get m q) ≡ get m q
      at q true e = let is : k ≡ q = grind (arith, nat_tests) in sym there ∙ ap (get m) is
      at q false e = refl

  -- ---- the entries
  find_number : (es : List (ℕ × X)) (q : ℕ) → find nat_cmp q es ≡ lookup (is_at (nat_cmp q)) es
  find_number [] q = refl
  find_number (e ∷ es) q = (λ i. cond ((eq_by_number q e.0 ∙ sym (at_eq q e.0)) i) (Some e.1) (find_number es q i))

  pub found : (es : List (ℕ × X)) (q : ℕ) → get (from_entries {R = nat_cmp} es) q ≡ lookup (is_at (nat_cmp q)) es
  found es q = get-from_entries nat_cmp_total es q ∙ find_number es q

  -- entries that differ at one number
  pub one_put : (es fs : List (ℕ × X)) (k : ℕ) (v : X) → ((q : ℕ) → lookup (is_at (nat_cmp q)) fs ≡ cond (is_at (nat_cmp k) q) (Some v) (lookup (is_at (nat_cmp q)) es)) →
      from_entries {R = nat_cmp} fs ≡ insert (from_entries es) k v
  one_put es fs k v at = same (from_entries fs) (insert (from_entries es) k v) (λ q. found fs q ∙ at q ∙ ap (λ b. cond b (Some v) (lookup (is_at (nat_cmp q)) es)) (at_eq k q)
      ∙ ap (cond (nat_eq k q) (Some v)) (sym (found es q)) ∙ sym (get_insert (from_entries es) k v q))

  pub one_gone : (es fs : List (ℕ × X)) (k : ℕ) → ((q : ℕ) → lookup (is_at (nat_cmp q)) fs ≡ cond (is_at (nat_cmp k) q) None (lookup (is_at (nat_cmp q)) es)) →
      from_entries {R = nat_cmp} fs ≡ remove (from_entries es) k
  one_gone es fs k at = same (from_entries fs) (remove (from_entries es) k) (λ q. found fs q ∙ at q ∙ ap (λ b. cond b None (lookup (is_at (nat_cmp q)) es)) (at_eq k q)
      ∙ ap (cond (nat_eq k q) None) (sym (found es q)) ∙ sym (get_remove (from_entries es) k q))

  not_among : (k : ℕ) (es : List (ℕ × X)) → AllByRecursion (λ y. eq_by_cmp nat_cmp k y ≡ false) (keys_of es) → is_some (lookup (is_at (nat_cmp k)) es) ≡ false
  not_among k [] none = refl
  not_among k (e ∷ es) none = ap (λ b. is_some (cond b (Some e.1) (lookup (is_at (nat_cmp k)) es))) (at_eq k e.0 ∙ sym (eq_by_number k e.0) ∙ none.0) ∙ not_among k es none.1

  distinct_count : (es : List (ℕ × X)) → IsDistinct (eq_by_cmp nat_cmp) (keys_of es) → len (from_entries {R = nat_cmp} es) ≡ length es
  unfolding IsDistinct
  distinct_count [] distinct = len-empty nat_cmp X
  distinct_count (e ∷ es) distinct =
      let absent : contains_key (from_entries {R = nat_cmp} es) e.0 ≡ false = ap is_some (found es e.0) ∙ not_among e.0 es distinct.0 in
      let before : len (from_entries {R = nat_cmp} es) ≡ length es = distinct_count es distinct.1 in
      len-insert nat_cmp_total (from_entries es) e.0 e.1
      ∙ ap (λ b. cond b (len (from_entries {R = nat_cmp} es)) (len (from_entries {R = nat_cmp} es) + 1)) absent
      ∙ omega (arith, before)

  -- how many there are
  pub count_of : (es : List (ℕ × X)) → IsSorted es → len (from_entries {R = nat_cmp} es) ≡ length es
  count_of es sorted = distinct_count es (IsDistinct-from_sorted nat_cmp (keys_of es) sorted)
