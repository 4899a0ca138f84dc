-- A frame's content lies in its payload.
use Rattle.std.proofs.Common.{ℕ, ◌+◌, ◌≤◌, Bool, true, false, List, length, ap, arith}
use Rattle.std.proofs.lemmas.List.{length-append}
use Rattle.h2_frames.specs.Frame.{Continuation, DataFrame, Frame, GoAway, Headers, Ping, Priority, Push, Reset, Settings, Unknown, WindowUpdate, content_of}
use Rattle.h2_frames.specs.Frames.{SpellsFrame}
use Rattle.h2_frames.specs.Head.{Head, head_octets, tells_padding}
use Rattle.h2_frames.specs.Payload.{IsPadded, Says}

padded_length : (b : Bool) (payload content : List ℕ) (padded : ℕ) → IsPadded b payload padded content → padded + length content ≤ length payload
padded_length false payload content padded h = omega (arith, ap length h.0, h.1)
padded_length true payload content padded (n, padding, is, len, pad, small) = omega (arith, ap length is, length-append content padding, len, pad)

content_in : (head : Head) (payload : List ℕ) (frame : Frame) → Says head payload frame → content_of frame ≤ length payload
content_in head payload (DataFrame stream last padded octets) h = padded_length (tells_padding head) payload octets padded h.4
content_in head payload (Headers stream last end_headers padded priority block) h = omega arith
content_in head payload (Priority stream priority) h = omega arith
content_in head payload (Reset stream code) h = omega arith
content_in head payload (Settings ack entries) h = omega arith
content_in head payload (Push stream end_headers padded promised block) h = omega arith
content_in head payload (Ping ack octets) h = omega arith
content_in head payload (GoAway last code debug) h = omega arith
content_in head payload (WindowUpdate stream increment) h = omega arith
content_in head payload (Continuation stream end_headers block) h = omega arith
content_in head payload (Unknown kind flags stream octets) h = omega arith

-- a frame of so many octets has its content and the nine octets of its head
pub content_within : (max : ℕ) (piece : List ℕ) (frame : Frame) → SpellsFrame max piece frame → (content_of frame ≤ max) × (content_of frame + 9 ≤ length piece)
content_within max piece frame s =
    let held = content_in s.head s.payload frame s.says in
    (omega (arith, held, s.whole, s.within), omega (arith, held, ap length s.begins.front, length-append (head_octets s.begins.reserved s.head) s.payload))
