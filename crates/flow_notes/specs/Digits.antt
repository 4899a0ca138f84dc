-- Hex digits as they are read, in lower case alone.
use Rattle.std.specs.Prelude.{ℕ, ◌-◌, ◌&&◌, ◌||◌, nat_le, Bool, if◌then◌else◌}

abbrev pub is_digit : ℕ → Bool
is_digit c = nat_le 48 c && nat_le c 57 || nat_le 97 c && nat_le c 102

-- a digit's value, and 0 for another octet
abbrev pub digit_value : ℕ → ℕ
digit_value c =
    if nat_le 48 c && nat_le c 57 then c - 48
    else if nat_le 97 c && nat_le c 102 then c - 87
    else 0
