-- The nine octets at the front of a frame (RFC 9113 section 4.1).
use Rattle.std.specs.Int.{to_be_bytes, w32}
use Rattle.std.specs.Prelude.{Bool, List, drop, false, if◌then◌else◌, ℕ, ◌%◌, ◌++◌, ◌+◌, ◌/◌, ◌<◌, ◌==◌, ◌^◌, ◌∷◌}

-- Length of the payload, Type, Flags and Stream Identifier
pub record Head : Type 0 where
  pub len : ℕ
  pub kind : ℕ
  pub flags : ℕ
  pub stream : ℕ

-- the numbers fit their fields: 24 bits, 8, 8 and 31
pub record FitsHead (head : Head) : Type 0 where
  pub len : head.len < 2 ^ 24
  pub kind : head.kind < 2 ^ 8
  pub flags : head.flags < 2 ^ 8
  pub stream : head.stream < 2 ^ 31

-- a bit and a number of 31 bits in four octets
abbrev pub word : Bool → ℕ → List ℕ
word bit n = to_be_bytes w32 (if bit then 2 ^ 31 + n else n)

-- the nine octets, with the reserved bit as given
abbrev pub head_octets : Bool → Head → List ℕ
head_octets reserved head =
    drop 1 (to_be_bytes w32 head.len) ++ (head.kind ∷ head.flags ∷ word reserved head.stream)

-- the nine octets with the reserved bit 0, by Length, Type, Flags and Stream Identifier
abbrev pub frame_head : ℕ → ℕ → ℕ → ℕ → List ℕ
frame_head len kind flags stream = head_octets false (record { len = len; kind = kind; flags = flags; stream = stream })

-- those of a DATA frame with n octets and no padding: END_STREAM is flag 1 (section 6.1)
abbrev pub data_head : ℕ → ℕ → Bool → List ℕ
data_head stream n last = frame_head n 0x0 (if last then 0x1 else 0) stream

-- the flag of this value is set (the values of section 6)
abbrev pub has_flag : ℕ → Head → Bool
has_flag flag head = head.flags / flag % 2 == 1

abbrev pub ends_stream : Head → Bool
ends_stream head = has_flag 0x1 head

abbrev pub acknowledges : Head → Bool
acknowledges head = has_flag 0x1 head

abbrev pub ends_headers : Head → Bool
ends_headers head = has_flag 0x4 head

abbrev pub tells_padding : Head → Bool
tells_padding head = has_flag 0x8 head

abbrev pub tells_priority : Head → Bool
tells_priority head = has_flag 0x20 head
