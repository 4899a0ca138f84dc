-- What reading one frame from the front of some octets answers.
use Rattle.h2_frames.specs.Fault.{head_fault}
use Rattle.h2_frames.specs.Frame.{padding_of}
use Rattle.h2_frames.specs.Frames.{Begins, BeginsNoFrame, Shows, ShowsNoFault, SpellsFrame}
use Rattle.h2_frames.specs.Head.{Head}
use Rattle.h2_frames.specs.Spelling.{IsWritable}
use Rattle.h2_frames.specs.View.{head_view, view}
use Rattle.h2_frames.specs.declared.reading.ReadHead.{ReadHead}
use Rattle.h2_frames.specs.declared.reading.ReadHead.TheVariants as head
use Rattle.h2_frames.specs.declared.types.ReadFrame.{ReadFrame}
use Rattle.h2_frames.specs.declared.types.ReadFrame.TheVariants.{Bad, Need, Whole}
use Rattle.std.specs.Prelude.{List, None, length, take, ℕ, ◌++◌, ◌+◌, ◌<◌, ◌≡◌, ◌≤◌}

-- a whole frame at the front, no whole frame and no fault yet, or no whole frame and the first fault
abbrev pub Reads : ℕ → List ℕ → ReadFrame → Type 0
Reads max input Need = BeginsNoFrame max input × ShowsNoFault max input
Reads max input (Whole frame used) = (used ≤ length input) × SpellsFrame max (take used input) (view frame)
Reads max input (Bad fault) = BeginsNoFrame max input × Shows max input fault

-- a frame that was read can be written, and has at most 256 octets of padding
abbrev pub GivesWritable : ReadFrame → Type 0
GivesWritable Need = Unit {0}
GivesWritable (Whole frame used) = IsWritable (view frame) × (padding_of (view frame) ≤ 256)
GivesWritable (Bad fault) = Unit {0}

-- an input that a greatest frame fits in isn't short of one
abbrev pub IsShort : ℕ → List ℕ → ReadFrame → Type 0
IsShort max input Need = length input < max + 9
IsShort max input (Whole frame used) = Unit {0}
IsShort max input (Bad fault) = Unit {0}

-- the octets begin with this head, which shows no fault, and the whole of its payload (RFC 9113 section 4.1)
pub record BeginsWhole (max : ℕ) (octets : List ℕ) (head : Head) (payload : List ℕ) : Type 0 where
  pub after : List ℕ
  pub begins : Begins octets head (payload ++ after)
  pub whole : length payload ≡ head.len
  pub sound : head_fault max head ≡ None

-- a head without a fault and its whole payload, or what reading a frame answers too
abbrev pub ReadsHead : ℕ → List ℕ → ReadHead → Type 0
ReadsHead max input head.Need = Reads max input Need
ReadsHead max input (head.Whole front payload) = BeginsWhole max input (head_view front) payload.now
ReadsHead max input (head.Bad fault) = Reads max input (Bad fault)

-- an input that a greatest frame fits in isn't short of one
abbrev pub IsHeadShort : ℕ → List ℕ → ReadHead → Type 0
IsHeadShort max input head.Need = IsShort max input Need
IsHeadShort max input answer = Unit {0}
