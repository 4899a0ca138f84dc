-- Fields by their names.
use Rattle.std.specs.Prelude.{Bool, IsSomeAnd, List, MatchOption, None, Option, Some, find, is_some, position, slice_get, ℕ, ◌≡◌}
use Rattle.std.specs.Option.{option_map}
use Rattle.std.specs.Str.{bytes_eq}
use Rattle.hpack_codec.specs.declared.fields.Field.{Field}

abbrev pub is_named : List ℕ → Field → Bool
is_named name field = bytes_eq field.name name

-- the value of the first field with the name
abbrev pub value_of : List ℕ → List Field → Option (List ℕ)
value_of name fields = option_map (λ field. field.value) (find (is_named name) fields)

abbrev pub has_field : List ℕ → List Field → Bool
has_field name fields = is_some (value_of name fields)

-- the place of the first field with the name
abbrev pub place_of : List ℕ → List Field → Option ℕ
place_of name fields = position (is_named name) fields

-- at the place stands the first field with the name; without one there is no place
abbrev pub StandsAt : List ℕ → List Field → Option ℕ → Type 0
StandsAt name fields found = MatchOption found (value_of name fields ≡ None)
    (λ place. IsSomeAnd (slice_get fields place) (λ field. value_of name fields ≡ Some field.value))
