-- Lines in a list of octets. A line ends with one octet 0a.
use Rattle.std.specs.List.{list_any}
use Rattle.std.specs.Prelude.{Bool, List, false, length, take, ℕ, ◌++◌, ◌<◌, ◌==◌, ◌∷◌, ◌≡◌}

abbrev pub has_newline : List ℕ → Bool
has_newline octets = list_any (λ c. c == 10) octets

-- the octets begin with a line of n octets and its newline
pub record BeginsWithLine (octets : List ℕ) (n : ℕ) : Type 0 where
  pub rest : List ℕ
  pub is : octets ≡ take n octets ++ 10 ∷ rest
  pub within : n < length octets
  pub whole : has_newline (take n octets) ≡ false
