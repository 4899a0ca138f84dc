-- A number of octets has one class.
use Rattle.std.proofs.Common.{◌≡◌, ℕ, ◌+◌, ◌-◌, ◌≤◌, arith}
use Rattle.std.specs.Prelude.{nat_lt}
use Rattle.std.proofs.Math.Pow.{pow_mono}
use Rattle.std.proofs.lemmas.Bool.{ltb-true, ltb-false}
use Rattle.link_lists.proofs.Memory.{either}
use Rattle.overload_core.specs.Class.{IsClassOf}

module _ (start bytes : ℕ) where
  no_more : (j k : ℕ) → IsClassOf start bytes j → IsClassOf start bytes k → k ≤ j
  no_more j k a b = either (nat_lt j k)
      (λ t. let l = ltb-true j k t in let most = b.most in
      let low = a.below (omega (arith, l, most)) in let high = b.at_least (omega (arith, l)) in
      let e : start + j ≤ start + k - 1 = omega (arith, l) in let p = pow_mono e in absurd (omega (arith, low, high, p)))
      (λ f. ltb-false j k f)

  pub one_class : (j k : ℕ) → IsClassOf start bytes j → IsClassOf start bytes k → j ≡ k
  one_class j k a b = let m = no_more j k a b in let n = no_more k j b a in omega (arith, m, n)
