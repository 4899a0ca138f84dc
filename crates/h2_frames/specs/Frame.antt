-- The frames of HTTP/2, with padding left off (RFC 9113 section 6).
use Rattle.h2_frames.specs.declared.types.Weighting.{Weighting}
use Rattle.std.specs.Prelude.{Bool, List, Option, length, ℕ, ◌+◌}

-- padded counts the octets of padding, the one that tells its length included
pub data Frame : Type 0 where
  DataFrame : (stream : ℕ) (last : Bool) (padded : ℕ) (octets : List ℕ) → Frame
  Headers : (stream : ℕ) (last end_headers : Bool) (padded : ℕ) (priority : Option Weighting) (block : List ℕ) → Frame
  Priority : (stream : ℕ) (priority : Weighting) → Frame
  Reset : (stream code : ℕ) → Frame
  Settings : (ack : Bool) (entries : List ℕ) → Frame
  Push : (stream : ℕ) (end_headers : Bool) (padded promised : ℕ) (block : List ℕ) → Frame
  Ping : (ack : Bool) (octets : List ℕ) → Frame
  GoAway : (last code : ℕ) (debug : List ℕ) → Frame
  WindowUpdate : (stream increment : ℕ) → Frame
  Continuation : (stream : ℕ) (end_headers : Bool) (block : List ℕ) → Frame
  Unknown : (kind flags stream : ℕ) (octets : List ℕ) → Frame

-- the octets of padding
abbrev pub padding_of : Frame → ℕ
padding_of (DataFrame stream last padded octets) = padded
padding_of (Headers stream last end_headers padded priority block) = padded
padding_of (Push stream end_headers padded promised block) = padded
padding_of frame = 0

-- the frame without its padding
abbrev pub unpadded : Frame → Frame
unpadded (DataFrame stream last padded octets) = DataFrame stream last 0 octets
unpadded (Headers stream last end_headers padded priority block) = Headers stream last end_headers 0 priority block
unpadded (Push stream end_headers padded promised block) = Push stream end_headers 0 promised block
unpadded frame = frame

-- the octets that count against windows: the whole payload of DATA, padding included (sections 6.1 and 6.9.1)
abbrev pub content_of : Frame → ℕ
content_of (DataFrame stream last padded octets) = padded + length octets
content_of frame = 0
