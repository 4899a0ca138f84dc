-- The one spelling of a frame without padding, with the reserved bit 0 and only the flags that its type defines.
use Rattle.h2_frames.specs.Fault.{forbids_length, forbids_stream}
use Rattle.h2_frames.specs.Frame.{Continuation, DataFrame, Frame, GoAway, Headers, Ping, Priority, Push, Reset, Settings, Unknown, WindowUpdate}
use Rattle.h2_frames.specs.Head.{FitsHead, Head, head_octets, word}
use Rattle.h2_frames.specs.Payload.{weighting_octets}
use Rattle.h2_frames.specs.declared.types.Weighting.{Weighting}
use Rattle.std.specs.Int.{to_be_bytes, w32}
use Rattle.std.specs.Prelude.{Bool, IfSome, List, None, Option, Some, [], false, if◌then◌else◌, is_some, length, ℕ, ◌++◌, ◌+◌, ◌<◌, ◌^◌, ◌≡◌}

-- the type of a frame (section 6)
abbrev pub kind_of : Frame → ℕ
kind_of (DataFrame stream last padded octets) = 0
kind_of (Headers stream last end_headers padded priority block) = 1
kind_of (Priority stream priority) = 2
kind_of (Reset stream code) = 3
kind_of (Settings ack entries) = 4
kind_of (Push stream end_headers padded promised block) = 5
kind_of (Ping ack octets) = 6
kind_of (GoAway last code debug) = 7
kind_of (WindowUpdate stream increment) = 8
kind_of (Continuation stream end_headers block) = 9
kind_of (Unknown kind flags stream octets) = kind

-- a flag's value where it is set
abbrev pub flag_when : ℕ → Bool → ℕ
flag_when flag set = if set then flag else 0

-- END_STREAM and ACK are 1, END_HEADERS is 4, PRIORITY is 20 hex
abbrev pub flags_of : Frame → ℕ
flags_of (DataFrame stream last padded octets) = flag_when 0x1 last
flags_of (Headers stream last end_headers padded priority block) =
    flag_when 0x1 last + flag_when 0x4 end_headers + flag_when 0x20 (is_some priority)
flags_of (Settings ack entries) = flag_when 0x1 ack
flags_of (Push stream end_headers padded promised block) = flag_when 0x4 end_headers
flags_of (Ping ack octets) = flag_when 0x1 ack
flags_of (Continuation stream end_headers block) = flag_when 0x4 end_headers
flags_of (Unknown kind flags stream octets) = flags
flags_of frame = 0

-- the stream of a frame, 0 for the connection
abbrev pub stream_of : Frame → ℕ
stream_of (DataFrame stream last padded octets) = stream
stream_of (Headers stream last end_headers padded priority block) = stream
stream_of (Priority stream priority) = stream
stream_of (Reset stream code) = stream
stream_of (Settings ack entries) = 0
stream_of (Push stream end_headers padded promised block) = stream
stream_of (Ping ack octets) = 0
stream_of (GoAway last code debug) = 0
stream_of (WindowUpdate stream increment) = stream
stream_of (Continuation stream end_headers block) = stream
stream_of (Unknown kind flags stream octets) = stream

abbrev pub priority_octets : Option Weighting → List ℕ
priority_octets None = []
priority_octets (Some w) = weighting_octets w

-- the payload of a frame, without padding
abbrev pub payload_of : Frame → List ℕ
payload_of (DataFrame stream last padded octets) = octets
payload_of (Headers stream last end_headers padded priority block) = priority_octets priority ++ block
payload_of (Priority stream priority) = weighting_octets priority
payload_of (Reset stream code) = to_be_bytes w32 code
payload_of (Settings ack entries) = entries
payload_of (Push stream end_headers padded promised block) = word false promised ++ block
payload_of (Ping ack octets) = octets
payload_of (GoAway last code debug) = word false last ++ (to_be_bytes w32 code ++ debug)
payload_of (WindowUpdate stream increment) = word false increment
payload_of (Continuation stream end_headers block) = block
payload_of (Unknown kind flags stream octets) = octets

abbrev pub head_of : Frame → Head
head_of frame = record {
  len = length (payload_of frame);
  kind = kind_of frame;
  flags = flags_of frame;
  stream = stream_of frame;
}

abbrev pub spelling : Frame → List ℕ
spelling frame = head_octets false (head_of frame) ++ payload_of frame

-- the numbers in the payload fit their fields, and an unknown type is none of the known ones
abbrev pub NumbersFit : Frame → Type 0
NumbersFit (Headers stream last end_headers padded priority block) = IfSome priority (λ w. w.dependency < 2 ^ 31)
NumbersFit (Priority stream priority) = priority.dependency < 2 ^ 31
NumbersFit (Reset stream code) = code < 2 ^ 32
NumbersFit (Push stream end_headers padded promised block) = promised < 2 ^ 31
NumbersFit (GoAway last code debug) = (last < 2 ^ 31) × (code < 2 ^ 32)
NumbersFit (WindowUpdate stream increment) = increment < 2 ^ 31
NumbersFit (Unknown kind flags stream octets) = 9 < kind
NumbersFit frame = Unit {0}

-- what has a spelling: the payload is below 2^24 octets, its size and stream are ones that its type allows, its numbers fit
pub record IsWritable (frame : Frame) : Type 0 where
  pub fits : FitsHead (head_of frame)
  pub on_stream : forbids_stream (head_of frame) ≡ false
  pub of_length : forbids_length (head_of frame) ≡ false
  pub numbers : NumbersFit frame
