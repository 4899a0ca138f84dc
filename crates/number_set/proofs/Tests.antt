-- The tests on numbers, and what they say.
use Rattle.std.proofs.Common.{arith, inl, inr, ◌⊎◌}
use Rattle.std.proofs.lemmas.Bool.{false≢true}
use Rattle.std.proofs.lemmas.Bool.Decides.{nat_tests}
use Rattle.std.specs.BTreeMap.{is_at}
use Rattle.std.specs.Ordering.{nat_cmp}
use Rattle.std.specs.Option.{OnSome}
use Rattle.std.specs.Prelude.{Bool, IsSome, None, Option, Some, false, nat_eq, refl, true, ℕ, ◌<◌, ◌≡◌}
use Rattle.std.specs.declared.cmp.Ordering.{Ordering}
use Rattle.std.specs.declared.cmp.Ordering.TheVariants.{Equal, Greater, Less}

pub less_is : (m n : ℕ) → nat_cmp m n ≡ Less → m < n
less_is m n h = grind (arith, nat_tests)

pub is_less : (m n : ℕ) → m < n → nat_cmp m n ≡ Less
is_less m n h = grind (arith, nat_tests)

pub equal_is : (m n : ℕ) → nat_cmp m n ≡ Equal → m ≡ n
equal_is m n h = grind (arith, nat_tests)

pub greater_is : (m n : ℕ) → nat_cmp m n ≡ Greater → n < m
greater_is m n h = grind (arith, nat_tests)

pub at_eq : (m n : ℕ) → is_at (nat_cmp m) n ≡ nat_eq m n
at_eq m n = grind (arith, nat_tests)

pub at_here : (m n : ℕ) → m ≡ n → is_at (nat_cmp m) n ≡ true
at_here m n h = grind (arith, nat_tests)

pub at_apart : (m n : ℕ) → nat_eq m n ≡ false → is_at (nat_cmp m) n ≡ false
at_apart m n h = grind (arith, nat_tests)

pub here : (m n : ℕ) → m ≡ n → nat_eq m n ≡ true
here m n h = grind (arith, nat_tests)

pub same_is : (m n : ℕ) → nat_eq m n ≡ true → m ≡ n
same_is m n h = grind (arith, nat_tests)

pub below_apart : (m n : ℕ) → m < n → nat_eq m n ≡ false
below_apart m n h = grind (arith, nat_tests)

pub above_apart : (m n : ℕ) → n < m → nat_eq m n ≡ false
above_apart m n h = grind (arith, nat_tests)

pub turned : (m n : ℕ) → nat_eq m n ≡ nat_eq n m
turned m n = grind (arith, nat_tests)

-- what is said of a value that is there
pub on_some : {T P : Type 0} (o : Option T) → IsSome o → OnSome o P → P
on_some None some p = absurd (false≢true some)
on_some (Some x) some p = p

-- ---- cases
pub same_or_apart : (m n : ℕ) → (m ≡ n) ⊎ (nat_eq m n ≡ false)
same_or_apart m n = by_test (nat_eq m n) refl
  where
    by_test : (b : Bool) → nat_eq m n ≡ b → (m ≡ n) ⊎ (nat_eq m n ≡ false)
    by_test true e = inl (same_is m n e)
    by_test false e = inr e

pub record IsBelow (m n : ℕ) : Type 0 where
  pub order : nat_cmp m n ≡ Less
  pub less : m < n

pub record IsAbove (m n : ℕ) : Type 0 where
  pub order : nat_cmp m n ≡ Greater
  pub more : n < m

pub record IsEqual (m n : ℕ) : Type 0 where
  pub order : nat_cmp m n ≡ Equal
  pub same : m ≡ n

pub compared : (m n : ℕ) → IsBelow m n ⊎ (IsEqual m n ⊎ IsAbove m n)
compared m n = by_order (nat_cmp m n) refl
  where
    by_order : (o : Ordering) → nat_cmp m n ≡ o → IsBelow m n ⊎ (IsEqual m n ⊎ IsAbove m n)
    by_order Less e = inl (record { order = e; less = less_is m n e })
    by_order Equal e = inr (inl (record { order = e; same = equal_is m n e }))
    by_order Greater e = inr (inr (record { order = e; more = greater_is m n e }))
