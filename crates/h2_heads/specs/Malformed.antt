-- Malformed lists of fields: the first place with a fault, and the lowest rule that is broken there.
use Rattle.h2_heads.specs.Kinds.{number_of}
use Rattle.h2_heads.specs.Named.{has_field, value_of}
use Rattle.h2_heads.specs.Rules.{breaks, is_bad_length, needed}
use Rattle.h2_heads.specs.declared.malformed.Kind.{Kind}
use Rattle.h2_heads.specs.declared.malformed.Kind.TheVariants.{BadLength, BadName, BadPseudo, BadValue, Forbidden, InnerColon, LatePseudo, Missing, Repeated, UnknownPseudo}
use Rattle.h2_heads.specs.declared.malformed.Malformed.{Malformed}
use Rattle.h2_heads.specs.declared.malformed.Message.{Message}
use Rattle.h2_heads.specs.declared.malformed.Message.TheVariants.{Connect, Request}
use Rattle.hpack_codec.specs.declared.fields.Field.{Field}
use Rattle.std.specs.List.{find, list_any, slice_get}
use Rattle.std.specs.Option.{option_map_or}
use Rattle.std.specs.Prelude.{Bool, IsSomeAnd, List, None, Option, Some, [], codes, false, if◌then◌else◌, is_some, length, not, suc, take, zero, ℕ, ◌<◌, ◌||◌, ◌∷◌, ◌≡◌}
use Rattle.std.specs.Str.{bytes_eq}

-- the rules for one field, the lowest first
abbrev pub kinds : List Kind
kinds = BadName ∷ InnerColon ∷ BadValue ∷ LatePseudo ∷ UnknownPseudo ∷ Repeated ∷ Forbidden ∷ BadPseudo ∷ BadLength ∷ []

-- the lowest rule that the field breaks
abbrev pub lowest : Message → List Field → Field → Option Kind
lowest message before field = find (λ kind. breaks message kind before field) kinds

abbrev pub lacks : Message → List Field → Bool
lacks message fields = list_any (λ name. not (has_field name fields)) (needed message)

-- what is wrong with the next field, after those before it; at the end, that a pseudo-field is missing
abbrev pub fault : Message → List Field → Option Field → Option Kind
fault message before (Some field) = lowest message before field
fault message before None = if lacks message before then Some Missing else None

abbrev pub fault_at : Message → List Field → ℕ → Option Kind
fault_at message fields place = fault message (take place fields) (slice_get fields place)

-- the same of the rule for content-length alone
abbrev pub length_fault : List Field → Option Field → Option Kind
length_fault before (Some field) = if is_bad_length (value_of (codes "content-length") before) field then Some BadLength else None
length_fault before None = None

abbrev pub length_fault_at : List Field → ℕ → Option Kind
length_fault_at fields place = length_fault (take place fields) (slice_get fields place)

-- the first place with a fault, and the number of the fault there
pub record IsFirst (found : ℕ → Option Kind) (bad : Malformed) : Type 0 where
  pub before : (place : ℕ) → place < bad.place → found place ≡ None
  pub there : IsSomeAnd (found bad.place) (λ kind. bad.kind ≡ number_of kind)

-- no place has a fault
abbrev pub IsSound : (ℕ → Option Kind) → Type 0
IsSound found = (place : ℕ) → found place ≡ None

abbrev pub is_any_below : (ℕ → Bool) → ℕ → Bool
is_any_below test zero = false
is_any_below test (suc n) = test n || is_any_below test n

-- some place, up to the one past the last field, has a fault
abbrev pub is_malformed : Message → List Field → Bool
is_malformed message fields = is_any_below (λ place. is_some (fault_at message fields place)) (suc (length fields))

-- a request whose first method is CONNECT (RFC 9113 section 8.5)
abbrev pub is_connect : List Field → Bool
is_connect fields = option_map_or (λ method. bytes_eq method (codes "CONNECT")) (value_of (codes ":method") fields) false

abbrev pub message_of_request : List Field → Message
message_of_request fields = if is_connect fields then Connect else Request
