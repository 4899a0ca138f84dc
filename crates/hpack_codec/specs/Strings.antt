-- Strings (RFC 7541 section 5.2).
use Rattle.std.specs.Prelude.{◌≡◌, ◌⊎◌, ℕ, ◌<◌, Bool, true, false, List, [], ◌∷◌, ◌++◌, length, nat_le}
use Rattle.huffman.specs.Huffman.{IsHuffman, octet_bits}
use Rattle.huffman.specs.Reading.{SpellsNone}
use Rattle.hpack_codec.specs.Integers.{IsInteger, BreaksInteger}
use Rattle.hpack_codec.specs.declared.fault.HpackFault.{HpackFault}
use Rattle.hpack_codec.specs.declared.fault.HpackFault.TheVariants.{BadHuffman, Truncated}

-- the first bit says that the octets are a Huffman string
abbrev pub is_coded : List ℕ → Bool
is_coded [] = false
is_coded (first ∷ more) = nat_le 128 first

-- the octets of a string say this text
abbrev pub Says : Bool → List ℕ → List ℕ → Type 0
Says true body text = IsHuffman body text
Says false body text = body ≡ text

-- The octets begin with a string of this text: its length, and so many octets that say it. Then comes the rest.
pub record IsString (octets text rest : List ℕ) : Type 0 where
  pub body : List ℕ
  pub sized : IsInteger 7 octets (length body) (body ++ rest)
  pub says : Says (is_coded octets) body text

-- the octets end within a string
pub record IsShortOf (octets : List ℕ) : Type 0 where
  pub len : ℕ
  pub there : List ℕ
  pub sized : IsInteger 7 octets len there
  pub short : length there < len

-- a whole string says that it is a Huffman string, and is that of no text
pub record IsNoText (octets : List ℕ) : Type 0 where
  pub body : List ℕ
  pub rest : List ℕ
  pub sized : IsInteger 7 octets (length body) (body ++ rest)
  pub coded : is_coded octets ≡ true
  pub none : SpellsNone (octet_bits body)

-- No string can be read: the first fault.
abbrev pub BreaksString : List ℕ → HpackFault → Type 0
BreaksString octets fault = BreaksInteger 7 octets fault ⊎ ((IsShortOf octets × (fault ≡ Truncated)) ⊎ (IsNoText octets × (fault ≡ BadHuffman)))
