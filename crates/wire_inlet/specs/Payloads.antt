-- What is taken of a frame whose head and payload stand whole at the front.
use Rattle.h2_frames.specs.Fault.{payload_fault}
use Rattle.h2_frames.specs.Frame.{DataFrame, Frame, Settings, padding_of}
use Rattle.h2_frames.specs.Head.{Head}
use Rattle.h2_frames.specs.Payload.{Says}
use Rattle.h2_frames.specs.Spelling.{IsWritable}
use Rattle.h2_frames.specs.View.{view}
use Rattle.h2_frames.specs.declared.types.Frame.{Frame as Borrowed}
use Rattle.h2_frames.specs.declared.types.FrameFault.{FrameFault}
use Rattle.h2_session.specs.Acts.{stream_of}
use Rattle.std.specs.Prelude.{Err, List, None, Ok, Option, Result, Some, drop, length, take, ℕ, ◌-◌, ◌<◌, ◌^◌, ◌≡◌, ◌≤◌}
use Rattle.wire_inlet.specs.Meaning.{IsKnown, Meaning, Means}
use Rattle.wire_inlet.specs.declared.intake.Taken.{Taken}

-- where the octets of a DATA frame without padding and the entries of SETTINGS stand: right before the end of the frame (RFC 9113
-- sections 6.1 and 6.5)
abbrev pub EndsAt : ℕ → List ℕ → Frame → Type 0
EndsAt end unread (DataFrame stream last padded octets) =
    padded ≡ 0 → (length octets ≤ end) × (end ≤ length unread) × (take (length octets) (drop (end - length octets) unread) ≡ octets)
EndsAt end unread (Settings ack entries) = (length entries ≤ end) × (end ≤ length unread) × (take (length entries) (drop (end - length entries) unread) ≡ entries)
EndsAt end unread frame = Unit {0}

-- a frame that was read can be written again, has at most 256 octets of padding, and ends at a place in the octets that aren't read
pub record IsTakeable (end : ℕ) (unread : List ℕ) (frame : Frame) : Type 0 where
  pub writable : IsWritable frame
  pub padding : padding_of frame ≤ 256
  pub ends : EndsAt end unread frame

-- so it is with whatever a payload says
abbrev pub CanBeTaken : ℕ → List ℕ → Head → List ℕ → Type 0
CanBeTaken end unread head payload = (frame : Frame) → Says head payload frame → IsTakeable end unread frame

-- a frame gives this and leaves that; a stream is a number of 31 bits, and fields can be written again
pub record Gives (frame : Frame) (old : Meaning) (taken : Taken) (new : Meaning) : Type 0 where
  pub means : Means frame old taken new
  pub stream : stream_of taken.act < 2 ^ 31
  pub fields : IsKnown taken.reading

-- what a payload gave is taken, or its fault is told and nothing changed
abbrev pub TakesRead : Result Borrowed FrameFault → Option FrameFault → Meaning → Taken → Meaning → Type 0
TakesRead (Ok frame) None old taken new = Gives (view frame) old taken new
TakesRead (Err shown) (Some fault) old taken new = (shown ≡ fault) × (new ≡ old)
TakesRead read fault old taken new = ⊥

-- the same of a head and the payload behind it
abbrev pub TakesPayload : Head → List ℕ → Option FrameFault → Meaning → Taken → Meaning → Type 0
TakesPayload head payload None old taken new = (frame : Frame) × Says head payload frame × Gives frame old taken new
TakesPayload head payload (Some fault) old taken new = (payload_fault head payload ≡ Some fault) × (new ≡ old)
