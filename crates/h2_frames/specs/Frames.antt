-- Which frames a list of octets spells, and the first fault that its rest shows (RFC 9113 sections 4.1 and 4.2).
use Rattle.h2_frames.specs.Fault.{first_fault}
use Rattle.h2_frames.specs.Frame.{Frame}
use Rattle.h2_frames.specs.Head.{FitsHead, Head, head_octets}
use Rattle.h2_frames.specs.Payload.{Says}
use Rattle.h2_frames.specs.declared.types.FrameFault.{FrameFault}
use Rattle.std.specs.Prelude.{Bool, List, Some, [], length, ℕ, ◌++◌, ◌∷◌, ◌≡◌, ◌≤◌}

-- the octets are the nine of a head, and what of its payload and of later frames came behind them
pub record Begins (octets : List ℕ) (head : Head) (came : List ℕ) : Type 0 where
  pub fits : FitsHead head
  pub reserved : Bool
  pub front : octets ≡ head_octets reserved head ++ came

-- the octets are this one frame, whose payload is at most the greatest
pub record SpellsFrame (max : ℕ) (octets : List ℕ) (frame : Frame) : Type 0 where
  pub head : Head
  pub payload : List ℕ
  pub begins : Begins octets head payload
  pub whole : length payload ≡ head.len
  pub within : head.len ≤ max
  pub says : Says head payload frame

-- the octets are these frames, one after another, and then the rest
abbrev pub AreFrames : ℕ → List ℕ → List Frame → List ℕ → Type 0
AreFrames max octets [] rest = octets ≡ rest
AreFrames max octets (frame ∷ frames) rest =
    (piece after : List ℕ) × (octets ≡ piece ++ after) × SpellsFrame max piece frame × AreFrames max after frames rest

-- no whole frame stands at the front
abbrev pub BeginsNoFrame : ℕ → List ℕ → Type 0
BeginsNoFrame max rest = (piece after : List ℕ) (frame : Frame) → rest ≡ piece ++ after → SpellsFrame max piece frame → ⊥

-- the rest shows the fault, and none before it
abbrev pub Shows : ℕ → List ℕ → FrameFault → Type 0
Shows max rest fault = (head : Head) × (came : List ℕ) × Begins rest head came × (first_fault max head came ≡ Some fault)

abbrev pub ShowsNoFault : ℕ → List ℕ → Type 0
ShowsNoFault max rest = (fault : FrameFault) → Shows max rest fault → ⊥

-- how a connection's octets are read: frames, and a rest that begins with none
pub record IsReading (max : ℕ) (octets : List ℕ) (frames : List Frame) (rest : List ℕ) : Type 0 where
  pub frames_are : AreFrames max octets frames rest
  pub no_more : BeginsNoFrame max rest
