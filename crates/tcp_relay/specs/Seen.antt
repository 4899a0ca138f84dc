-- What is seen of a relay between dispatches.
use Rattle.std.specs.Prelude.{Bool, List, None, Option, Some, false, length, take, true, ℕ, ◌<◌, ◌≡◌}

-- a front of what waits, which isn't empty where that isn't
pub record IsFront (all front : List ℕ) : Type 0 where
  pub is : front ≡ take (length front) all
  pub some : 0 < length all → 0 < length front

-- the least number above one at which P holds, if there is one
pub record IsLeastAt (P : ℕ → Bool) (after d : ℕ) : Type 0 where
  pub above : after < d
  pub holds : P d ≡ true
  pub least : (c : ℕ) → after < c → c < d → P c ≡ false

abbrev pub IsLeast : (ℕ → Bool) → ℕ → Option ℕ → Type 0
IsLeast P after None = (c : ℕ) → after < c → P c ≡ false
IsLeast P after (Some d) = IsLeastAt P after d
