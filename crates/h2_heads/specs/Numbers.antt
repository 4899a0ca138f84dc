-- Decimal numbers in values.
use Rattle.std.specs.List.{list_all}
use Rattle.std.specs.Prelude.{Bool, List, fold, length, nat_le, nat_lt, not, slice_index, ℕ, ◌&&◌, ◌*◌, ◌+◌, ◌-◌, ◌==◌, ◌^◌}

abbrev pub is_digit : ℕ → Bool
is_digit octet = nat_le 48 octet && nat_le octet 57

abbrev pub with_digit : ℕ → ℕ → ℕ
with_digit n octet = 10 * n + (octet - 48)

-- what decimal digits say
abbrev pub decimal : List ℕ → ℕ
decimal digits = fold with_digit 0 digits

-- digits that say a number below 2^63
abbrev pub is_decimal : List ℕ → Bool
is_decimal value = list_all is_digit value && nat_lt (decimal value) (2 ^ 63)

-- a zero with digits behind it
abbrev pub begins_zero : List ℕ → Bool
begins_zero value = nat_lt 1 (length value) && (slice_index value 0 == 48)

-- a content-length: digits without sign or leading zeros, below 2^63 (RFC 9110 section 8.6)
abbrev pub is_length : List ℕ → Bool
is_length value = nat_lt 0 (length value) && not (begins_zero value) && is_decimal value

-- a status: three digits from 100 to 999 (RFC 9110 section 15)
abbrev pub is_status : List ℕ → Bool
is_status value = (length value == 3) && list_all is_digit value && nat_le 100 (decimal value)
