-- The rules that a field may break (RFC 9113 sections 8.2 and 8.3).
use Rattle.h2_heads.specs.Named.{has_field, is_named, value_of}
use Rattle.h2_heads.specs.Numbers.{is_length, is_status}
use Rattle.h2_heads.specs.declared.malformed.Kind.{Kind}
use Rattle.h2_heads.specs.declared.malformed.Kind.TheVariants.{BadLength, BadName, BadPseudo, BadValue, Forbidden, InnerColon, LatePseudo, Missing, Repeated, UnknownPseudo}
use Rattle.h2_heads.specs.declared.malformed.Message.{Message}
use Rattle.h2_heads.specs.declared.malformed.Message.TheVariants.{Connect, Request, Response, Trailers}
use Rattle.hpack_codec.specs.declared.fields.Field.{Field}
use Rattle.std.specs.List.{list_any, starts_with}
use Rattle.std.specs.Option.{option_map_or}
use Rattle.std.specs.Prelude.{Bool, List, Option, [], codes, drop, false, length, nat_eq, nat_le, nat_lt, not, slice_get, ℕ, ◌&&◌, ◌-◌, ◌==◌, ◌||◌, ◌∷◌}
use Rattle.std.specs.Str.{bytes_eq}

-- an octet that no name has: upper case, below 21 hex, or above 7e hex
abbrev pub is_bad_in_name : ℕ → Bool
is_bad_in_name octet = (nat_le 65 octet && nat_le octet 90) || nat_lt octet 33 || nat_lt 126 octet

abbrev pub is_bad_name : List ℕ → Bool
is_bad_name name = (length name == 0) || list_any is_bad_in_name name

abbrev pub has_inner_colon : List ℕ → Bool
has_inner_colon name = list_any (λ octet. octet == 58) (drop 1 name)

-- NUL, LF or CR
abbrev pub is_bad_in_value : ℕ → Bool
is_bad_in_value octet = (octet == 0) || (octet == 10) || (octet == 13)

-- space or tab
abbrev pub is_blank : ℕ → Bool
is_blank octet = (octet == 32) || (octet == 9)

abbrev pub is_blank_at : List ℕ → ℕ → Bool
is_blank_at value place = option_map_or is_blank (slice_get value place) false

abbrev pub is_bad_value : List ℕ → Bool
is_bad_value value = list_any is_bad_in_value value || is_blank_at value 0 || is_blank_at value (length value - 1)

abbrev pub is_pseudo : Field → Bool
is_pseudo field = starts_with nat_eq field.name (codes ":")

abbrev pub is_one_of : List (List ℕ) → Field → Bool
is_one_of names field = list_any (λ name. is_named name field) names

-- the pseudo-fields that a message knows
abbrev pub known : Message → List (List ℕ)
known Request = codes ":method" ∷ codes ":scheme" ∷ codes ":authority" ∷ codes ":path" ∷ []
known Connect = codes ":method" ∷ codes ":authority" ∷ []
known Response = codes ":status" ∷ []
known Trailers = []

-- those that it must have
abbrev pub needed : Message → List (List ℕ)
needed Request = codes ":method" ∷ codes ":scheme" ∷ codes ":path" ∷ []
needed Connect = codes ":method" ∷ codes ":authority" ∷ []
needed Response = codes ":status" ∷ []
needed Trailers = []

-- the fields of HTTP/1.1's connections (RFC 9113 section 8.2.2)
abbrev pub connection_fields : List (List ℕ)
connection_fields =
    codes "connection" ∷ codes "keep-alive" ∷ codes "proxy-connection" ∷ codes "transfer-encoding" ∷ codes "upgrade" ∷ []

abbrev pub is_forbidden : Field → Bool
is_forbidden field =
    is_one_of connection_fields field || (is_named (codes "te") field && not (bytes_eq field.value (codes "trailers")))

abbrev pub is_bad_pseudo : Field → Bool
is_bad_pseudo field =
    (is_named (codes ":path") field && (length field.value == 0)) || (is_named (codes ":status") field && not (is_status field.value))

-- the value isn't that of the first field of its name
abbrev pub differs : Option (List ℕ) → List ℕ → Bool
differs first value = option_map_or (λ other. not (bytes_eq other value)) first false

-- a content-length that is no length, or differs from the first one
abbrev pub is_bad_length : Option (List ℕ) → Field → Bool
is_bad_length first field =
    is_named (codes "content-length") field && (not (is_length field.value) || differs first field.value)

abbrev pub has_regular : List Field → Bool
has_regular fields = list_any (λ field. not (is_pseudo field)) fields

abbrev pub is_late : List Field → Field → Bool
is_late before field = is_pseudo field && has_regular before

abbrev pub is_repeated : List Field → Field → Bool
is_repeated before field = is_pseudo field && has_field field.name before

-- the field of a message breaks the rule, after the fields before it
abbrev pub breaks : Message → Kind → List Field → Field → Bool
breaks message BadName before field = is_bad_name field.name
breaks message InnerColon before field = has_inner_colon field.name
breaks message BadValue before field = is_bad_value field.value
breaks message LatePseudo before field = is_late before field
breaks message UnknownPseudo before field = is_pseudo field && not (is_one_of (known message) field)
breaks message Repeated before field = is_repeated before field
breaks message Forbidden before field = is_forbidden field
breaks message Missing before field = false
breaks message BadPseudo before field = is_bad_pseudo field
breaks message BadLength before field = is_bad_length (value_of (codes "content-length") before) field
