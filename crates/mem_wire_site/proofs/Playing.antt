-- The play of a worker.
use Rattle.std.proofs.Common.{refl}
use Rattle.std.proofs.lemmas.Option.{slice_get_read}
use Rattle.std.specs.Borrow.{Bor}
use Rattle.std.specs.Prelude.{IfSome, List, None, Option, Some, length, slice_get, ℕ, ◌≡◌}
use Rattle.std.specs.Slice.{IsItemAt}

-- what is lent of a list is there
pub lent_there : {X : Type 0} (xs : List X) (i : ℕ) (r : Option (Bor X)) → IsItemAt xs i r → IfSome r (λ x. slice_get xs i ≡ Some x.now)
lent_there xs i None at = tt
lent_there xs i (Some x) at = slice_get_read xs (length xs) i x.now refl at.3.0 at.1
