-- Numbers that are marked.
use Rattle.std.proofs.Common.{arith, inl, inr, refl, sym, ◌∙◌, ◌⊎◌}
use Rattle.std.proofs.lemmas.Bool.{false≢true}
use Rattle.std.proofs.lemmas.Bool.Decides.{nat_tests}
use Rattle.std.specs.Prelude.{Bool, false, if◌then◌else◌, true, ℕ, ◌==◌, ◌≡◌}
