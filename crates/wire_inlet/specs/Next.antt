-- What stands at the front of the octets that aren't read (RFC 9113 sections 3.4, 4.1 and 7).
use Rattle.h2_frames.specs.declared.codes.TheConstants.{PROTOCOL_ERROR}
use Rattle.h2_frames.specs.Fault.{fault_code}
use Rattle.h2_frames.specs.Frame.{Frame}
use Rattle.h2_frames.specs.Frames.{BeginsNoFrame, Shows, ShowsNoFault, SpellsFrame}
use Rattle.h2_frames.specs.declared.types.FrameFault.{FrameFault}
use Rattle.h2_session.specs.Preface.{Begins}
use Rattle.h2_session.specs.declared.preface.Prefaced.TheVariants as begun
use Rattle.h2_session.specs.Acts.{stream_of}
use Rattle.std.specs.Prelude.{List, false, if◌then◌else◌, length, true, ℕ, ◌++◌, ◌+◌, ◌<◌, ◌^◌, ◌≡◌, ◌≤◌, ◌⊎◌}
use Rattle.wire_inlet.specs.Incoming.{AreBehind, Incoming, meaning_of}
use Rattle.wire_inlet.specs.Meaning.{IsKnown, Means}
use Rattle.wire_inlet.specs.declared.intake.Front.{Front}
use Rattle.wire_inlet.specs.declared.intake.Front.TheVariants as at_front
use Rattle.wire_inlet.specs.declared.intake.Intake.{Intake}
use Rattle.wire_inlet.specs.declared.intake.Intake.TheVariants as intake
use Rattle.wire_inlet.specs.declared.intake.Taken.{Taken}

-- what stands at the front, with the frame that was taken
abbrev pub intake_of : Front → Taken → Intake
intake_of at_front.Need taken = intake.Need
intake_of (at_front.Fault code) taken = intake.Fault code
intake_of at_front.Taken taken = intake.Taken taken

-- the octets at the front are a proper front of the preface, or differ from it at some octet
abbrev pub LacksPreface : List ℕ → Intake → Type 0
LacksPreface octets intake.Need = Begins octets begun.Need
LacksPreface octets (intake.Fault code) = Begins octets begun.Bad × (code ≡ PROTOCOL_ERROR)
LacksPreface octets (intake.Taken taken) = ⊥

-- the octets at the front are no whole frame and show no fault yet, or show a first fault
abbrev pub LacksFrame : ℕ → List ℕ → Intake → Type 0
LacksFrame max octets intake.Need = BeginsNoFrame max octets × ShowsNoFault max octets
LacksFrame max octets (intake.Fault code) = (fault : FrameFault) × Shows max octets fault × (code ≡ fault_code fault)
LacksFrame max octets (intake.Taken taken) = ⊥

-- nothing can be taken: the preface isn't there, or behind it no frame is
abbrev pub Lacks : ℕ → Incoming → Intake → Type 0
Lacks max v answer =
    ((v.prefaced ≡ false) × LacksPreface v.unread answer)
    ⊎ ((frames : List ℕ) × AreBehind v frames × LacksFrame max frames answer)

-- The octets that aren't read were what was left of the preface, then one frame, and then those that still aren't.
pub record TakesFrame (max : ℕ) (old : Incoming) (taken : Taken) (new : Incoming) : Type 0 where
  pub frame : Frame
  pub piece : List ℕ
  pub unread : AreBehind old (piece ++ new.unread)
  pub spells : SpellsFrame max piece frame
  pub means : Means frame (meaning_of old) taken (meaning_of new)
  pub prefaced : new.prefaced ≡ true

-- what is answered with a greatest payload, and where it leaves the connection
abbrev pub NextOf : ℕ → Incoming → Intake → Incoming → Type 0
NextOf max old (intake.Taken taken) new = TakesFrame max old taken new
NextOf max old answer new = Lacks max old answer × (new ≡ old)

-- where nothing can be taken, the octets that aren't read are fewer than those of the preface and of a greatest frame
abbrev pub IsShort : ℕ → Incoming → Intake → Type 0
IsShort max v intake.Need = length v.unread < (if v.prefaced then 0 else 24) + max + 9
IsShort max v given = Unit {0}

-- A stream is a number of 31 bits, fields can be written again, and the content was read with the nine octets of its
-- frame's head.
pub record IsWithin (max : ℕ) (old : Incoming) (taken : Taken) (new : Incoming) : Type 0 where
  pub stream : stream_of taken.act < 2 ^ 31
  pub fields : IsKnown taken.reading
  pub content : taken.content ≤ max
  pub read : length new.unread + taken.content + 9 ≤ length old.unread

abbrev pub IsInside : ℕ → Incoming → Intake → Incoming → Type 0
IsInside max old (intake.Taken taken) new = IsWithin max old taken new
IsInside max old given new = Unit {0}
