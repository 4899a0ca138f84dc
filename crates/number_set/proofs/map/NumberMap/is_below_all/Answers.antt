use Rattle.number_set.proofs.Entries.{below_first}
use Rattle.number_set.proofs.map.NumberMap.is_below_all.Goals as goal
use Rattle.number_set.specs.NumberMap.{IsGap}
use Rattle.std.proofs.Common.{arith, subst}
use Rattle.std.proofs.lemmas.Bool.Decides.{nat_tests}
use Rattle.std.specs.Prelude.{nat_lt, true, ℕ, ◌<◌, ◌≡◌}

is_less : (m n : ℕ) → nat_lt m n ≡ true → m < n
is_less m n e = grind (arith, nat_tests)

pub returns-in-Some : goal.returns-in-Some
returns-in-Some g c = λ less.
    let item = c.in-Some.ensures.item in
    subst (λ es. IsGap c.args.number 0 es) c.self.view_is
    (below_first c.args.number c.in-Some.first.now c.self.inside.items.items c.self.invariant (omega (arith, item.3.0, c.self.inside.items.ok.0)) item.1 (is_less _ _ less))
