-- Octets as one word: two digits of 0 to 9 and a to f for each, the high four bits first (`encode_lower` of the crate hex).
use Rattle.std.specs.Prelude.{ℕ, ◌<◌, ◌≤◌, List, length}

-- what a word can spell: at least one octet
abbrev pub HasOctets : List ℕ → Type 0
HasOctets octets = 0 < length octets

-- what one event brings
abbrev pub IsPiece : List ℕ → Type 0
IsPiece octets = (0 < length octets) × (length octets ≤ 16384)
