-- What a call leaves that appends, and may stop in the middle.
use Rattle.std.specs.Prelude.{◌≡◌, ◌++◌, ℕ, List}

-- the old octets stand in front
pub record Extends (old new : List ℕ) : Type 0 where
  pub added : List ℕ
  pub is : new ≡ old ++ added
