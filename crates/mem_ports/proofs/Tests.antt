-- The tests on numbers, and what they say.
use Rattle.std.proofs.Common.{arith}
use Rattle.std.proofs.lemmas.Bool.Decides.{nat_tests}
use Rattle.std.specs.BTreeMap.{is_at}
use Rattle.std.specs.Ordering.{nat_cmp}
use Rattle.std.specs.Prelude.{nat_eq, true, ℕ, ◌<◌, ◌≡◌}
use Rattle.std.specs.declared.cmp.Ordering.TheVariants.{Greater}

pub at_eq : (m n : ℕ) → is_at (nat_cmp m) n ≡ nat_eq m n
at_eq m n = grind (arith, nat_tests)

pub is_greater : (m n : ℕ) → n < m → nat_cmp m n ≡ Greater
is_greater m n h = grind (arith, nat_tests)

pub here : (n : ℕ) → nat_eq n n ≡ true
here n = grind (arith, nat_tests)

pub same_is : (m n : ℕ) → nat_eq m n ≡ true → m ≡ n
same_is m n h = grind (arith, nat_tests)
