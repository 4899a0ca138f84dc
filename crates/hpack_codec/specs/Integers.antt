-- Integers with a prefix (RFC 7541 section 5.1).
use Rattle.std.specs.Prelude.{◌≡◌, ◌⊎◌, ℕ, ◌+◌, ◌-◌, ◌*◌, ◌%◌, ◌^◌, ◌<◌, ◌≤◌, List, [], ◌∷◌, ◌++◌, length}
use Rattle.std.specs.List.{AllByRecursion}
use Rattle.hpack_codec.specs.declared.fault.HpackFault.{HpackFault}
use Rattle.hpack_codec.specs.declared.fault.HpackFault.TheVariants.{BadInteger, Truncated}

-- the greatest number of a prefix, which says that octets follow it
abbrev pub full : ℕ → ℕ
full prefix = 2 ^ prefix - 1

-- what octets behind a prefix stand for: seven bits each, the lowest first
abbrev pub value_of : List ℕ → ℕ
value_of [] = 0
value_of (b ∷ more) = b % 128 + 128 * value_of more

-- A full prefix with octets behind it that say that more follow: fewer than five, and a value below 2 ^ 32 so far.
pub record Unfinished (prefix first : ℕ) (more : List ℕ) : Type 0 where
  pub is_full : first % 2 ^ prefix ≡ full prefix
  pub onward : AllByRecursion (λ b. 128 ≤ b) more
  pub few : length more < 5
  pub small : full prefix + value_of more < 2 ^ 32

-- an integer that fits its prefix, and the rest
pub record IsShort (prefix : ℕ) (octets : List ℕ) (n : ℕ) (rest : List ℕ) : Type 0 where
  pub first : ℕ
  pub whole : octets ≡ first ∷ rest
  pub value : n ≡ first % 2 ^ prefix
  pub fits : n < full prefix

-- an integer that goes on behind its prefix up to an octet that says that none follows, and the rest
pub record IsLong (prefix : ℕ) (octets : List ℕ) (n : ℕ) (rest : List ℕ) : Type 0 where
  pub first : ℕ
  pub more : List ℕ
  pub last : ℕ
  pub whole : octets ≡ first ∷ (more ++ last ∷ rest)
  pub begun : Unfinished prefix first more
  pub ends : last < 128
  pub value : n ≡ full prefix + value_of (more ++ last ∷ [])
  pub fits : n < 2 ^ 32

-- The octets begin with this integer, in the low bits of the first octet and what follows it, and then comes the rest.
abbrev pub IsInteger : ℕ → List ℕ → ℕ → List ℕ → Type 0
IsInteger prefix octets n rest = IsShort prefix octets n rest ⊎ IsLong prefix octets n rest

-- the octets end within an integer
abbrev pub IsCut : ℕ → List ℕ → Type 0
IsCut prefix octets = (octets ≡ []) ⊎ ((first : ℕ) × (more : List ℕ) × (octets ≡ first ∷ more) × Unfinished prefix first more)

-- an octet takes the value to 2 ^ 32 or above, or it is the fifth and says that more follow
pub record IsTooLarge (prefix : ℕ) (octets : List ℕ) : Type 0 where
  pub first : ℕ
  pub more : List ℕ
  pub last : ℕ
  pub rest : List ℕ
  pub whole : octets ≡ first ∷ (more ++ last ∷ rest)
  pub begun : Unfinished prefix first more
  pub over : (2 ^ 32 ≤ full prefix + value_of (more ++ last ∷ [])) ⊎ ((length more ≡ 4) × (128 ≤ last))

-- No integer can be read: the fault, shown by the first octet that shows one.
abbrev pub BreaksInteger : ℕ → List ℕ → HpackFault → Type 0
BreaksInteger prefix octets fault = (IsCut prefix octets × (fault ≡ Truncated)) ⊎ (IsTooLarge prefix octets × (fault ≡ BadInteger))
