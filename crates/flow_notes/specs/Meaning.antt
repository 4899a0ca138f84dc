-- What one word says: the value that it spells, if any.
use Rattle.std.specs.Prelude.{ℕ, ◌-◌, ◌==◌, ◌&&◌, nat_le, nat_lt, Bool, true, false, List, [], ◌∷◌, length, take, slice_index, Option, None, Some, Result, Ok, Err, if◌then◌else◌}
use Rattle.std.specs.Fmt.{decimal}
use Rattle.std.specs.Str.{bytes_eq}
use Rattle.std.specs.Str.Parse.{digits_value}
use Rattle.hex.specs.Hex.{decode_of, encode_lower}
use Rattle.hex.specs.declared.error.FromHexError.{FromHexError}
use Rattle.flow_rules.specs.declared.ids.FlowId.{FlowId}

-- the second step, if the first gave a value
infixl 10 ◌>>=◌
abbrev pub ◌>>=◌ : {A B : Type 0} → Option A → (A → Option B) → Option B
(Some x) >>= f = f x
None >>= f = None

-- a number from low to high
unfoldable pub number_of : ℕ → ℕ → List ℕ → Option ℕ
number_of low high word =
    let n = digits_value 10 word in
    if bytes_eq (decimal n) word && (nat_le low n && nat_le n high) then Some n else None

abbrev pub u16_of : List ℕ → Option ℕ
u16_of word = number_of 0 65535 word

abbrev pub u32_of : List ℕ → Option ℕ
u32_of word = number_of 0 4294967295 word

abbrev pub u64_of : List ℕ → Option ℕ
u64_of word = number_of 0 18446744073709551615 word

-- a stream, or how many octets leave
abbrev pub positive_of : List ℕ → Option ℕ
positive_of word = number_of 1 2147483647 word

abbrev pub counted_of : List ℕ → Option ℕ
counted_of word = number_of 1 4294967295 word

abbrev pub moment_of : List ℕ → Option ℕ
moment_of word = number_of 0 1152921504606846975 word

abbrev pub count_of : List ℕ → Option ℕ
count_of word = number_of 0 9223372036854775807 word

-- the octets that were decoded, if they are spelled so
abbrev pub spelled_octets : List ℕ → Result (List ℕ) FromHexError → Option (List ℕ)
spelled_octets word (Ok octets) = if bytes_eq (encode_lower octets) word && nat_lt 0 (length octets) then Some octets else None
spelled_octets word (Err e) = None

-- at least one octet
unfoldable pub octets_of : List ℕ → Option (List ℕ)
octets_of word = spelled_octets word (decode_of word)

-- at least one octet, and no more than one event brings
unfoldable pub piece_of : List ℕ → Option (List ℕ)
piece_of word = if nat_le (length word) 32768 then octets_of word else None

-- the side that the last octet of a flow's word says
abbrev pub side_of : ℕ → Option Bool
side_of c = if c == 113 then Some false else if c == 114 then Some true else None

unfoldable pub flow_of : List ℕ → Option FlowId
flow_of word = if length word == 0 then None else do
  exchange ← u64_of (take (length word - 1) word)
  back ← side_of (slice_index word (length word - 1))
  Some (record { exchange = exchange; back = back })

-- the numbers that the words spell, one each
unfoldable pub numbers_of : List (List ℕ) → Option (List ℕ)
numbers_of [] = Some []
numbers_of (word ∷ words) = do
  n ← u32_of word
  ns ← numbers_of words
  Some (n ∷ ns)
