-- How much is still to do, where one stream changed.
use Rattle.exchange_core.specs.Exchanges.{Exchanges, IsSound as AreSoundExchanges, exchange_at}
use Rattle.exchange_core.specs.declared.exchange.Exchange.{Exchange}
use Rattle.plain_laws.proofs.Streams.{by_case, differs_back, number_is, same_number}
use Rattle.std.proofs.Common.{ap, arith, refl, sym, ◌∙◌}
use Rattle.std.specs.List.{AllByRecursion}
use Rattle.std.specs.Option.{option_map_or}
use Rattle.std.specs.Ordering.{nat_cmp}
use Rattle.std.specs.Prelude.{Bool, List, None, Option, [], false, filter, if◌then◌else◌, length, true, ℕ, ◌+◌, ◌<◌, ◌==◌, ◌∷◌, ◌≡◌, ◌≤◌}
use Rattle.exchange_core.proofs.Maps.{eq_by_number}
use Rattle.std.proofs.lemmas.List.Sums.{sum_by-cons}
use Rattle.std.proofs.lemmas.Bool.Decides.{nat_tests}
use Rattle.std.specs.List.{sum_by}
use Rattle.std.specs.List.Sorted.{IsStrictlySortedBy}
use Rattle.std.specs.Map.{keys_of, lookup}
use Rattle.std.proofs.Common.{Less}
use Rattle.std.specs.Prelude.{nat_eq, suc, zero}
use Rattle.plain_core.specs.Measure.{way}

-- ---- sums over numbers
abbrev total : (ℕ → ℕ) → ℕ → ℕ
total u zero = 0
total u (suc n) = u n + total u n

same_total : (u v : ℕ → ℕ) (n : ℕ) → ((y : ℕ) → y < n → u y ≡ v y) → total u n ≡ total v n
same_total u v zero e = refl
same_total u v (suc n) e = two (u n) (total u n) (v n) (total v n) (e n (last n)) (same_total u v n (λ y l. e y (later y n l)))
  where
    two : (a b c d : ℕ) → a ≡ c → b ≡ d → a + b ≡ c + d
    two a b c d p q = omega (arith, p, q)

    last : (n : ℕ) → n < suc n
    last n = omega arith

    later : (y n : ℕ) → y < n → y < suc n
    later y n l = omega (arith, l)

none_total : (n : ℕ) → total (λ y. 0) n ≡ 0
none_total zero = refl
none_total (suc n) = same (total (λ y. 0) n) (none_total n)
  where
    same : (a : ℕ) → a ≡ 0 → 0 + a ≡ 0
    same a e = omega (arith, e)

-- where one number alone changed
changed_total : (u v : ℕ → ℕ) (x n : ℕ) → x < n → ((y : ℕ) → (x == y) ≡ false → u y ≡ v y) → total u n + v x ≡ total v n + u x
changed_total u v x zero l e = omega (arith, l)
changed_total u v x (suc n) l e = by_case (x == n)
    (λ t. let is = number_is x n t in own (u n) (total u n) (v x) (v n) (total v n) (u x) (same_total u v n (λ y m. e y (above_it x y n is m))) (ap u is) (ap v is))
    (λ d. other (u n) (total u n) (v x) (v n) (total v n) (u x) (e n d) (changed_total u v x n (below x n l d) e))
  where
    above_it : (x y n : ℕ) → x ≡ n → y < n → (x == y) ≡ false
    above_it x y n e l = grind (arith, nat_tests)

    below : (x n : ℕ) → x < suc n → (x == n) ≡ false → x < n
    below x n l d = grind (arith, nat_tests)

    own : (un a vx vn b ux : ℕ) → a ≡ b → ux ≡ un → vx ≡ vn → (un + a) + vx ≡ (vn + b) + ux
    own un a vx vn b ux e f g = omega (arith, e, f, g)

    other : (un a vx vn b ux : ℕ) → un ≡ vn → a + vx ≡ b + ux → (un + a) + vx ≡ (vn + b) + ux
    other un a vx vn b ux e f = omega (arith, e, f)

-- ---- sums over entries in the order of their keys
module _ {X : Type 0} (f : X → ℕ) where
  abbrev at_key : List (ℕ × X) → ℕ → ℕ
  at_key es y = option_map_or f (lookup (nat_eq y) es) 0

  not_there : (k : ℕ) (es : List (ℕ × X)) → AllByRecursion (λ y. nat_cmp k y ≡ Less) (keys_of es) → lookup (nat_eq k) es ≡ None
  not_there k [] all = refl
  not_there k (e ∷ es) all = cc (eq_by_number k e.0, not_there k es all.1)

  sum_of : (es : List (ℕ × X)) (n : ℕ) → IsStrictlySortedBy nat_cmp (keys_of es) → sum_by (λ (e : ℕ × X). e.0) es < n → sum_by (λ (e : ℕ × X). f e.1) es ≡ total (at_key es) n
  unfolding IsStrictlySortedBy
  sum_of [] n s l = sym (none_total n)
  sum_of (e ∷ es) n s l =
      let key = sum_by-cons (λ (d : ℕ × X). d.0) e es in
      let rest = sum_of es n s.1 (tail_below e.0 (sum_by (λ (d : ℕ × X). d.0) es) (sum_by (λ (d : ℕ × X). d.0) (e ∷ es)) n key l) in
      let one = changed_total (at_key (e ∷ es)) (at_key es) e.0 n (head_below e.0 (sum_by (λ (d : ℕ × X). d.0) es) (sum_by (λ (d : ℕ × X). d.0) (e ∷ es)) n key l)
      (λ y d. cc (differs_back e.0 y d)) in
      let own : at_key (e ∷ es) e.0 ≡ f e.1 = cc (same_number e.0) in
      let none : at_key es e.0 ≡ 0 = cc (not_there e.0 es s.0) in
      sum_by-cons (λ (d : ℕ × X). f d.1) e es ∙ sums (f e.1) _ _ _ _ _ rest one own none
    where
      tail_below : (k a b n : ℕ) → b ≡ k + a → b < n → a < n
      tail_below k a b n e l = omega (arith, e, l)

      head_below : (k a b n : ℕ) → b ≡ k + a → b < n → k < n
      head_below k a b n e l = omega (arith, e, l)

      sums : (fe se t t' v u : ℕ) → se ≡ t → t' + v ≡ t + u → u ≡ fe → v ≡ 0 → fe + se ≡ t'
      sums fe se t t' v u e1 e2 e3 e4 = omega (arith, e1, e2, e3, e4)

  pub changed_sum : (x : ℕ) (o : Option X) (es fs : List (ℕ × X)) → IsStrictlySortedBy nat_cmp (keys_of es) → IsStrictlySortedBy nat_cmp (keys_of fs)
      → ((y : ℕ) → lookup (nat_eq y) fs ≡ (if x == y then o else lookup (nat_eq y) es))
      → sum_by (λ (e : ℕ × X). f e.1) fs + option_map_or f (lookup (nat_eq x) es) 0 ≡ sum_by (λ (e : ℕ × X). f e.1) es + option_map_or f o 0
  changed_sum x o es fs s t same =
      let a = sum_by (λ (e : ℕ × X). e.0) es in
      let b = sum_by (λ (e : ℕ × X). e.0) fs in
      let n = suc (x + (a + b)) in
      let c = changed_total (at_key fs) (at_key es) x n (first x a b) (λ y d. cc (same y)) in
      let own = ap (λ v. option_map_or f v 0) (cc (same x, same_number x)) in
      sums _ _ _ _ _ _ _ (sum_of es n s (second x a b)) (sum_of fs n t (third x a b)) c own
    where
      first : (x a b : ℕ) → x < suc (x + (a + b))
      first x a b = omega arith

      second : (x a b : ℕ) → a < suc (x + (a + b))
      second x a b = omega arith

      third : (x a b : ℕ) → b < suc (x + (a + b))
      third x a b = omega arith

      sums : (se sf te tf v u w : ℕ) → se ≡ te → sf ≡ tf → tf + v ≡ te + u → u ≡ w → sf + v ≡ se + w
      sums se sf te tf v u w e1 e2 e3 e4 = omega (arith, e1, e2, e3, e4)

-- the ways of all streams, where one changed or is gone
pub ahead_changes : (x : ℕ) (o : Option Exchange) (old new : Exchanges) → AreSoundExchanges old → AreSoundExchanges new
    → ((y : ℕ) → exchange_at new y ≡ (if x == y then o else exchange_at old y))
    → sum_by (λ (e : ℕ × Exchange). way e.1) new.live + option_map_or way (exchange_at old x) 0 ≡ sum_by (λ (e : ℕ × Exchange). way e.1) old.live + option_map_or way o 0
unfolding exchange_at
ahead_changes x o old new s t same = changed_sum way x o old.live new.live s.order t.order same

pub fewer : {X : Type 0} (p : X → Bool) (xs : List X) → length (filter p xs) ≤ length xs
fewer p [] = omega arith
fewer p (x ∷ xs) = pick (p x) (filter p xs) (fewer p xs)
  where
    pick : (b : Bool) (ys : List _) → length ys ≤ length xs → length (if b then x ∷ ys else ys) ≤ length (x ∷ xs)
    pick true ys l = omega (arith, l)
    pick false ys l = omega (arith, l)
