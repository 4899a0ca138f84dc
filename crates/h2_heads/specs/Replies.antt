-- The fields of a reply that the proxy makes itself.
use Rattle.hpack_codec.specs.declared.fields.Field.{Field}
use Rattle.std.specs.Prelude.{List, [], codes, false, ℕ, ◌%◌, ◌+◌, ◌/◌, ◌∷◌}

-- the last three digits of a number
abbrev pub three_digits : ℕ → List ℕ
three_digits n = (48 + n / 100 % 10) ∷ (48 + n / 10 % 10) ∷ (48 + n % 10) ∷ []

-- the status alone
abbrev pub status_list : ℕ → List Field
status_list status = record { name = codes ":status"; value = three_digits status; never = false } ∷ []
