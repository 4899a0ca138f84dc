-- Sums over entries in the order of their keys, where one entry changed, came or went.
use Rattle.exchange_core.proofs.Maps.{eq_by_number}
use Rattle.std.proofs.Common.{Less, ap, arith, refl, sym, ◌∙◌}
use Rattle.std.proofs.lemmas.Bool.Decides.{nat_tests}
use Rattle.std.proofs.lemmas.List.Sums.{sum_by-cons}
use Rattle.std.specs.List.{AllByRecursion, sum_by}
use Rattle.std.specs.List.Sorted.{IsStrictlySortedBy}
use Rattle.std.specs.Map.{keys_of, lookup}
use Rattle.std.specs.Option.{option_map_or}
use Rattle.std.specs.Ordering.{is_eq, nat_cmp}
use Rattle.std.specs.Prelude.{Bool, List, None, Option, Some, [], cond, false, nat_eq, suc, true, zero, ℕ, ◌+◌, ◌<◌, ◌==◌, ◌∷◌, ◌≡◌}
use Rattle.wire_flows.proofs.Cases.{by_case, differs_back, number_is, same_number}

-- ---- sums over numbers
abbrev total : (ℕ → ℕ) → ℕ → ℕ
total u zero = 0
total u (suc n) = u n + total u n

same_total : (u v : ℕ → ℕ) (n : ℕ) → ((y : ℕ) → y < n → u y ≡ v y) → total u n ≡ total v n
same_total u v zero e = refl
same_total u v (suc n) e = two (u n) (total u n) (v n) (total v n) (e n (last n)) (same_total u v n (λ y l. e y (later y n l)))
  where
    two : (a b c d : ℕ) → a ≡ c → b ≡ d → a + b ≡ c + d
    two a b c d p q = omega (arith, p, q)

    last : (n : ℕ) → n < suc n
    last n = omega arith

    later : (y n : ℕ) → y < n → y < suc n
    later y n l = omega (arith, l)

none_total : (n : ℕ) → total (λ y. 0) n ≡ 0
none_total zero = refl
none_total (suc n) = same (total (λ y. 0) n) (none_total n)
  where
    same : (a : ℕ) → a ≡ 0 → 0 + a ≡ 0
    same a e = omega (arith, e)

-- where one number alone changed
changed_total : (u v : ℕ → ℕ) (x n : ℕ) → x < n → ((y : ℕ) → (x == y) ≡ false → u y ≡ v y) → total u n + v x ≡ total v n + u x
changed_total u v x zero l e = omega (arith, l)
changed_total u v x (suc n) l e = by_case (x == n)
    (λ t. let is = number_is x n t in own (u n) (total u n) (v x) (v n) (total v n) (u x) (same_total u v n (λ y m. e y (above_it x y n is m))) (ap u is) (ap v is))
    (λ d. other (u n) (total u n) (v x) (v n) (total v n) (u x) (e n d) (changed_total u v x n (below x n l d) e))
  where
    above_it : (x y n : ℕ) → x ≡ n → y < n → (x == y) ≡ false
    above_it x y n e l = grind (arith, nat_tests)

    below : (x n : ℕ) → x < suc n → (x == n) ≡ false → x < n
    below x n l d = grind (arith, nat_tests)

    own : (un a vx vn b ux : ℕ) → a ≡ b → ux ≡ un → vx ≡ vn → (un + a) + vx ≡ (vn + b) + ux
    own un a vx vn b ux e f g = omega (arith, e, f, g)

    other : (un a vx vn b ux : ℕ) → un ≡ vn → a + vx ≡ b + ux → (un + a) + vx ≡ (vn + b) + ux
    other un a vx vn b ux e f = omega (arith, e, f)

-- ---- sums over entries
abbrev pub at_key : {X : Type 0} → (ℕ → X → ℕ) → List (ℕ × X) → ℕ → ℕ
at_key f es y = option_map_or (f y) (lookup (nat_eq y) es) 0

module _ {X : Type 0} where
  not_there : (k : ℕ) (es : List (ℕ × X)) → AllByRecursion (λ y. nat_cmp k y ≡ Less) (keys_of es) → lookup (nat_eq k) es ≡ None
  not_there k [] all = refl
  not_there k (e ∷ es) all = ap (λ b. cond b (Some e.1) (lookup (nat_eq k) es)) (sym (eq_by_number k e.0) ∙ ap is_eq all.0) ∙ not_there k es all.1

  sum_of : (f : ℕ → X → ℕ) (es : List (ℕ × X)) (n : ℕ) → IsStrictlySortedBy nat_cmp (keys_of es) → sum_by (λ (e : ℕ × X). e.0) es < n → sum_by (λ (e : ℕ × X). f e.0 e.1) es ≡ total (at_key f es) n
  unfolding IsStrictlySortedBy
  sum_of f [] n s l = sym (none_total n)
  sum_of f (e ∷ es) n s l =
      let key = sum_by-cons (λ (d : ℕ × X). d.0) e es in
      let rest = sum_of f es n s.1 (tail_below e.0 (sum_by (λ (d : ℕ × X). d.0) es) (sum_by (λ (d : ℕ × X). d.0) (e ∷ es)) n key l) in
      let one = changed_total (at_key f (e ∷ es)) (at_key f es) e.0 n (head_below e.0 (sum_by (λ (d : ℕ × X). d.0) es) (sum_by (λ (d : ℕ × X). d.0) (e ∷ es)) n key l)
      (λ y d. ap (λ b. option_map_or (f y) (cond b (Some e.1) (lookup (nat_eq y) es)) 0) (differs_back e.0 y d)) in
      let own : at_key f (e ∷ es) e.0 ≡ f e.0 e.1 = ap (λ b. option_map_or (f e.0) (cond b (Some e.1) (lookup (nat_eq e.0) es)) 0) (same_number e.0) in
      let none : at_key f es e.0 ≡ 0 = ap (λ o. option_map_or (f e.0) o 0) (not_there e.0 es s.0) in
      sum_by-cons (λ (d : ℕ × X). f d.0 d.1) e es ∙ sums (f e.0 e.1) _ _ _ _ _ rest one own none
    where
      tail_below : (k a b n : ℕ) → b ≡ k + a → b < n → a < n
      tail_below k a b n e l = omega (arith, e, l)

      head_below : (k a b n : ℕ) → b ≡ k + a → b < n → k < n
      head_below k a b n e l = omega (arith, e, l)

      sums : (fe se t t' v u : ℕ) → se ≡ t → t' + v ≡ t + u → u ≡ fe → v ≡ 0 → fe + se ≡ t'
      sums fe se t t' v u e1 e2 e3 e4 = omega (arith, e1, e2, e3, e4)

  -- at all keys but x both add the same
  pub changed_sum : (f g : ℕ → X → ℕ) (x : ℕ) (es fs : List (ℕ × X)) → IsStrictlySortedBy nat_cmp (keys_of es) → IsStrictlySortedBy nat_cmp (keys_of fs)
      → ((y : ℕ) → (x == y) ≡ false → at_key g fs y ≡ at_key f es y)
      → sum_by (λ (e : ℕ × X). g e.0 e.1) fs + at_key f es x ≡ sum_by (λ (e : ℕ × X). f e.0 e.1) es + at_key g fs x
  changed_sum f g x es fs s t same =
      let a = sum_by (λ (e : ℕ × X). e.0) es in
      let b = sum_by (λ (e : ℕ × X). e.0) fs in
      let n = suc (x + (a + b)) in
      let c = changed_total (at_key g fs) (at_key f es) x n (first x a b) same in
      sums _ _ _ _ _ _ (sum_of f es n s (second x a b)) (sum_of g fs n t (third x a b)) c
    where
      first : (x a b : ℕ) → x < suc (x + (a + b))
      first x a b = omega arith

      second : (x a b : ℕ) → a < suc (x + (a + b))
      second x a b = omega arith

      third : (x a b : ℕ) → b < suc (x + (a + b))
      third x a b = omega arith

      sums : (se sf te tf v u : ℕ) → se ≡ te → sf ≡ tf → tf + v ≡ te + u → sf + v ≡ se + u
      sums se sf te tf v u e1 e2 e3 = omega (arith, e1, e2, e3)
