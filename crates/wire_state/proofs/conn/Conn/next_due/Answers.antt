use Rattle.number_set.specs.NumberSet.{first, has}
use Rattle.std.proofs.Common.{ap, arith, sym}
use Rattle.std.proofs.lemmas.Bool.Decides.{nat_tests}
use Rattle.std.specs.Prelude.{Bool, List, Some, [], if◌then◌else◌, nat_eq, true, ℕ, ◌||◌, ◌∷◌, ◌≡◌}
use Rattle.wire_state.proofs.conn.Conn.next_due.Goals as goal

first_there : (xs : List ℕ) (x : ℕ) → first xs ≡ Some x → has xs x ≡ true
first_there [] x is = absurd (cc is)
first_there (y ∷ xs) x is = ap (λ b. b || has xs x) (same x y (cc is))
  where
    same : (m n : ℕ) → n ≡ m → nat_eq m n ≡ true
    same m n e = grind (arith, nat_tests)

pub loop-exchange-smaller : goal.loop-exchange-smaller
loop-exchange-smaller c =
    let gone = ap {B = ℕ} (λ (b : Bool). if b then 1 else 0) (first_there c.loop-exchange.self.credits.items c.in-Some.exchange (sym c.in-Some.ensures)) in
    omega (arith, gone, c.remove.ensures.len)
