-- The first fault of a frame, from what of it is there (RFC 9113 sections 4.2 and 6).
use Rattle.h2_frames.specs.declared.codes.TheConstants.{FRAME_SIZE_ERROR, PROTOCOL_ERROR}
use Rattle.h2_frames.specs.Head.{Head, acknowledges, tells_padding, tells_priority}
use Rattle.h2_frames.specs.declared.types.FrameFault.{FrameFault}
use Rattle.h2_frames.specs.declared.types.FrameFault.TheVariants as fault
use Rattle.std.specs.Prelude.{Bool, List, None, Option, Some, [], false, if◌then◌else◌, length, nat_le, nat_lt, not, take, true, ℕ, ◌%◌, ◌&&◌, ◌-◌, ◌==◌, ◌||◌, ◌∷◌}

-- SETTINGS, PING and GOAWAY are of the connection, and WINDOW_UPDATE may be
abbrev pub forbids_stream : Head → Bool
forbids_stream head =
    if (head.kind == 4) || (head.kind == 6) || (head.kind == 7) then not (head.stream == 0)
    else nat_le head.kind 9 && not (head.kind == 8) && (head.stream == 0)

-- PRIORITY has 5 octets, RST_STREAM and WINDOW_UPDATE have 4, SETTINGS has entries of 6 and its acknowledgement none,
-- PING has 8, GOAWAY at least 8
abbrev pub forbids_length : Head → Bool
forbids_length head =
    if head.kind == 2 then not (head.len == 5)
    else if (head.kind == 3) || (head.kind == 8) then not (head.len == 4)
    else if head.kind == 4 then not (head.len % 6 == 0) || (acknowledges head && not (head.len == 0))
    else if head.kind == 6 then not (head.len == 8)
    else if head.kind == 7 then nat_lt head.len 8
    else false

-- the first fault that the nine octets of the head show, with a greatest length
abbrev pub head_fault : ℕ → Head → Option FrameFault
head_fault max head =
    if nat_lt max head.len then Some fault.TooLong
    else if forbids_stream head then Some fault.BadStream
    else if forbids_length head then Some fault.BadSize
    else None

-- DATA, HEADERS and PUSH_PROMISE may be padded
abbrev pub has_padding : Head → Bool
has_padding head = ((head.kind == 0) || (head.kind == 1) || (head.kind == 5)) && tells_padding head

-- the octets that stand before the rest of the content: a priority, or the promised stream
abbrev pub announced : Head → ℕ
announced head = if head.kind == 1 then (if tells_priority head then 5 else 0) else if head.kind == 5 then 4 else 0

-- with or without padding, and with so many octets announced
abbrev pub content_fault : Bool → ℕ → List ℕ → Option FrameFault
content_fault false n payload = if nat_lt (length payload) n then Some fault.BadSize else None
content_fault true n [] = Some fault.BadSize
content_fault true n (pad ∷ rest) =
    if nat_lt (length rest) n then Some fault.BadSize
    else if nat_lt (length rest - n) pad then Some fault.BadPadding
    else None

-- the first fault that the whole payload shows, where the head shows none
abbrev pub payload_fault : Head → List ℕ → Option FrameFault
payload_fault head payload = content_fault (has_padding head) (announced head) payload

-- the first of two answers, where there is one
abbrev pub first_of : Option FrameFault → Option FrameFault → Option FrameFault
first_of None second = second
first_of (Some shown) second = Some shown

-- the first fault that a head and the octets behind it show
abbrev pub first_fault : ℕ → Head → List ℕ → Option FrameFault
first_fault max head came =
    first_of (head_fault max head) (if nat_lt (length came) head.len then None else payload_fault head (take head.len came))

-- the code of the connection error that a fault is (section 7)
abbrev pub fault_code : FrameFault → ℕ
fault_code fault.TooLong = FRAME_SIZE_ERROR
fault_code fault.BadSize = FRAME_SIZE_ERROR
fault_code fault.BadStream = PROTOCOL_ERROR
fault_code fault.BadPadding = PROTOCOL_ERROR
