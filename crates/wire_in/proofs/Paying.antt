-- How far a frame that was taken pays for what it begins.
use Rattle.std.proofs.Common.{arith}
use Rattle.std.specs.Prelude.{Err, IfOk, Ok, Result, ℕ, ◌+◌, ◌≡◌}
use Rattle.wire_inlet.specs.Next.{intake_of}
use Rattle.wire_inlet.specs.declared.intake.Front.{Front}
use Rattle.wire_inlet.specs.declared.intake.Intake.{Intake}
use Rattle.wire_inlet.specs.declared.intake.Intake.TheVariants as intake
use Rattle.wire_inlet.specs.declared.intake.Taken.{Taken}
use Rattle.wire_state.specs.Intakes.{PaysFor}

pays_more : (i : Intake) (a b p q : ℕ) → q + a ≡ p + b → PaysFor i a b → PaysFor i p q
pays_more intake.Need a b p q e h = omega (arith, e, h)
pays_more (intake.Fault code) a b p q e h = omega (arith, e, h)
pays_more (intake.Taken taken) a b p q e h = omega (arith, e, h)

-- where a part pays, the whole does
pub pays_as : {E : Type 0} (r : Result Front E) (taken : Taken) (a b p q : ℕ) → q + a ≡ p + b → IfOk r (λ f. PaysFor (intake_of f taken) a b) → IfOk r (λ f. PaysFor (intake_of f taken) p q)
pays_as (Ok f) taken a b p q e h = pays_more (intake_of f taken) a b p q e h
pays_as (Err x) taken a b p q e h = tt
