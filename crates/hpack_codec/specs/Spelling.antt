-- What a spelling of an integer is (RFC 7541 section 5.1): what is written for it, and what is read as it and nothing else.
use Rattle.std.specs.Prelude.{◌≡◌, ℕ, List, []}
use Rattle.hpack_codec.specs.Encoding.{integer}
use Rattle.hpack_codec.specs.Integers.{IsInteger}

pub record IsSpelling (prefix pattern n : ℕ) (octets : List ℕ) : Type 0 where
  pub written : integer prefix pattern n ≡ octets
  pub read : IsInteger prefix octets n []
  pub alone : (m : ℕ) (rest : List ℕ) → IsInteger prefix octets m rest → (m ≡ n) × (rest ≡ [])
