-- Octets in a word.
use Rattle.std.specs.Int.{Width, from_le_bytes, to_le_bytes}
use Rattle.std.specs.Prelude.{List, ℕ, ◌≡◌}

-- the word is these octets, the lowest first, and so no other octets
pub record IsWordOf (w : Width) (octets : List ℕ) (word : ℕ) : Type 0 where
  pub read : word ≡ from_le_bytes w octets
  pub written : to_le_bytes w word ≡ octets
