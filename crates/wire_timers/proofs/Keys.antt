-- Keys that are the same.
use Rattle.std.proofs.Common.{◌≡◌, Bool, true, false, ◌&&◌, refl, sym}
use Rattle.std.specs.Prelude.{◌==◌}
use Rattle.std.proofs.lemmas.Bool.{eq-eqb, eqb-true, true≢false}
use Rattle.std.proofs.lemmas.Cmp.{nat_eq_equiv}
use Rattle.wire_timers.specs.Held.{Key, same_key}

pub same_refl : (q : Key) → same_key q q ≡ true
same_refl q = λ i. eq-eqb q.0 q.0 refl i && eq-eqb q.1 q.1 refl i

pub same_symm : (p q : Key) → same_key p q ≡ same_key q p
same_symm p q = λ i. nat_eq_equiv.symm p.0 q.0 i && nat_eq_equiv.symm p.1 q.1 i

both : (a b : Bool) → (a && b) ≡ true → (a ≡ true) × (b ≡ true)
both true true h = (refl, refl)
both true false h = absurd (true≢false (sym h))
both false b h = absurd (true≢false (sym h))

pub same_is : (p q : Key) → same_key p q ≡ true → p ≡ q
same_is p q h = let b = both (p.0 == q.0) (p.1 == q.1) h in λ i. (eqb-true p.0 q.0 b.0 i, eqb-true p.1 q.1 b.1 i)
