-- The rules for a field in the order in which one pass over its name and one over its value tell them.
use Rattle.h2_heads.specs.Named.{has_field}
use Rattle.h2_heads.specs.Rules.{connection_fields, has_regular, is_bad_in_name, is_bad_length, is_bad_pseudo, is_forbidden, is_one_of, known}
use Rattle.h2_heads.specs.declared.malformed.Kind.{Kind}
use Rattle.h2_heads.specs.declared.malformed.Kind.TheVariants.{BadLength, BadPseudo, Forbidden, LatePseudo, Repeated, UnknownPseudo}
use Rattle.h2_heads.specs.declared.malformed.Message.{Message}
use Rattle.hpack_codec.specs.declared.fields.Field.{Field}
use Rattle.std.specs.List.{list_any}
use Rattle.std.specs.Prelude.{Bool, List, None, Option, Some, codes, if◌then◌else◌, nat_le, not, ℕ, ◌&&◌, ◌==◌, ◌||◌, ◌∷◌}
use Rattle.std.specs.Str.{bytes_eq}

-- an octet that a name may have past its first
abbrev pub is_plain : ℕ → Bool
is_plain octet = not (is_bad_in_name octet) && not (octet == 58)

-- a plain octet of those that names are made of: the small letters, the digits, the hyphen and others
abbrev pub is_usual : ℕ → Bool
is_usual octet = (nat_le 33 octet && nat_le octet 57) || (nat_le 91 octet && nat_le octet 126)

-- an octet up to CR, as all are that no value has
abbrev pub is_low : ℕ → Bool
is_low octet = nat_le octet 13

-- the names of regular fields that have rules of their own
abbrev pub special_names : List (List ℕ)
special_names = codes "te" ∷ codes "content-length" ∷ connection_fields

abbrev pub is_special : List ℕ → Bool
is_special name = list_any (bytes_eq name) special_names

-- the lowest rule that a pseudo-field breaks whose name and value are sound
abbrev pub lowest_of_pseudo : Message → List Field → Field → Option Kind
lowest_of_pseudo message before field =
    if has_regular before then Some LatePseudo
    else if not (is_one_of (known message) field) then Some UnknownPseudo
    else if has_field field.name before then Some Repeated
    else if is_bad_pseudo field then Some BadPseudo
    else None

-- the same of a regular field, where that is the first content-length
abbrev pub lowest_of_special : Option (List ℕ) → Field → Option Kind
lowest_of_special first field =
    if is_forbidden field then Some Forbidden else if is_bad_length first field then Some BadLength else None
