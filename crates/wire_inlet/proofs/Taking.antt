-- A frame whose head and payload stand whole behind the preface.
use Rattle.std.proofs.Common.{List, None, Some, arith, drop, inr, length, refl, take, true, ℕ, ◌++◌, ◌+◌, ◌-◌, ◌≡◌}
use Rattle.h2_frames.specs.Fault.{fault_code, payload_fault}
use Rattle.h2_frames.specs.Head.{Head}
use Rattle.h2_frames.specs.Reading.{BeginsWhole}
use Rattle.h2_frames.specs.declared.types.FrameFault.{FrameFault}
use Rattle.h2_frames.proofs.Readable.{padding, writable}
use Rattle.h2_frames.proofs.Shown.{frame_by_payload, shown_by_payload}
use Rattle.wire_inlet.specs.Incoming.{AreBehind, Incoming, meaning_of}
use Rattle.wire_inlet.specs.Next.{Lacks, TakesFrame}
use Rattle.wire_inlet.specs.Payloads.{CanBeTaken, TakesPayload}
use Rattle.wire_inlet.specs.declared.intake.Intake.TheVariants.{Fault}
use Rattle.wire_inlet.specs.declared.intake.Taken.{Taken}
use Rattle.wire_inlet.proofs.Ended.{ends_at}
use Rattle.wire_inlet.proofs.Nexts.{left_behind, takes}

-- what a whole payload says can be taken where it ends
pub takeable : (max : ℕ) (front frames unread slice : List ℕ) (head : Head) (payload : List ℕ) → slice ≡ unread → slice ≡ front ++ frames → BeginsWhole max frames head payload
    → CanBeTaken (length slice - length frames + 9 + length payload) unread head payload
takeable max front frames unread slice head payload is e b = λ frame says.
    let spelled = frame_by_payload max frames head payload frame b says in
    let end = length slice - length frames + 9 + length payload in
    record {
      writable = writable max (take (head.len + 9) frames) frame spelled.1;
      padding = padding max (take (head.len + 9) frames) frame spelled.1;
      ends = ends_at max front frames unread slice (head.len + 9) end frame is e (omega (arith, b.whole)) spelled.0 spelled.1;
    }

-- behind a whole payload
pub left_of_payload : (max : ℕ) (front frames unread slice : List ℕ) (head : Head) (payload : List ℕ) → slice ≡ unread → slice ≡ front ++ frames → BeginsWhole max frames head payload
    → drop (length slice - length frames + 9 + length payload) unread ≡ drop (head.len + 9) frames
left_of_payload max front frames unread slice head payload is e b =
    left_behind front frames unread slice (head.len + 9) (length slice - length frames + 9 + length payload) is e (omega (arith, b.whole))

-- a whole payload that shows a fault is no frame
pub lacks_frame : (max : ℕ) (old : Incoming) (frames : List ℕ) (head : Head) (payload : List ℕ) (fault : FrameFault) → AreBehind old frames → BeginsWhole max frames head payload
    → payload_fault head payload ≡ Some fault → Lacks max old (Fault (fault_code fault))
lacks_frame max old frames head payload fault behind b shows = inr (frames, behind, (fault, shown_by_payload max frames head payload fault b shows, refl))

-- a frame was taken of its payload from the octets behind the preface
pub takes_payload : (max : ℕ) (old new : Incoming) (taken : Taken) (frames : List ℕ) (head : Head) (payload : List ℕ) → AreBehind old frames → BeginsWhole max frames head payload
    → new.unread ≡ drop (head.len + 9) frames → TakesPayload head payload None (meaning_of old) taken (meaning_of new) → new.prefaced ≡ true → TakesFrame max old taken new
takes_payload max old new taken frames head payload behind b left (frame, says, gives) prefaced =
    takes max old new taken frame frames (head.len + 9) behind (frame_by_payload max frames head payload frame b says).1 left gives.means prefaced
