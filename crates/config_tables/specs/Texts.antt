-- Names, and texts among others.
use Rattle.std.specs.Prelude.{ℕ, Bool, true, ◌&&◌, ◌||◌, ◌==◌, List, [], ◌∷◌, length, nat_le, not}
use Rattle.std.specs.List.{list_all, list_any}
use Rattle.std.specs.Str.{bytes_eq}

-- an octet of a name: `a` to `z`, `0` to `9`, `-` or `_`
abbrev pub is_name_octet : ℕ → Bool
is_name_octet b = ((nat_le 97 b && nat_le b 122) || (nat_le 48 b && nat_le b 57)) || (b == 45 || b == 95)

-- a name: 1 to 64 such octets
abbrev pub is_name : List ℕ → Bool
is_name text = (nat_le 1 (length text) && nat_le (length text) 64) && list_all is_name_octet text

-- the text is one of these
abbrev pub is_among : List (List ℕ) → List ℕ → Bool
is_among texts text = list_any (bytes_eq text) texts

-- no text stands twice
abbrev pub are_distinct : List (List ℕ) → Bool
are_distinct [] = true
are_distinct (t ∷ ts) = not (is_among ts t) && are_distinct ts
