-- What a frame means, and what its header block gives (RFC 9113 sections 4.3, 5 and 6).
use Rattle.h2_frames.specs.Frame.{Frame, WindowUpdate, content_of}
use Rattle.h2_session.specs.Acts.{act_of}
use Rattle.h2_session.specs.Errors.{after}
use Rattle.h2_session.specs.Happened.{Happening}
use Rattle.h2_session.specs.Summary.{StandsFor, Summary}
use Rattle.h2_session.specs.declared.act.Act.{Act}
use Rattle.h2_session.specs.declared.act.Act.TheVariants as act
use Rattle.hpack_codec.specs.Decoding.{Decoding, IsTooLong}
use Rattle.hpack_codec.specs.Encoding.{HasSpelling}
use Rattle.hpack_codec.specs.Sections.{BreaksBlock, SpellsBlock, list_size}
use Rattle.hpack_codec.specs.declared.fault.HpackFault.{HpackFault}
use Rattle.std.specs.Prelude.{All, Bool, List, None, Option, Some, [], false, length, true, ℕ, ◌<◌, ◌^◌, ◌∷◌, ◌≡◌, ◌≤◌, ◌⊎◌}
use Rattle.wire_inlet.specs.declared.intake.Reading.{Reading}
use Rattle.wire_inlet.specs.declared.intake.Reading.TheVariants as reading
use Rattle.wire_inlet.specs.declared.intake.Taken.{Taken}

-- The session and the decoder after the frames that were taken, and whether memory ran out within a block.
pub record Meaning : Type 0 where
  pub session : Summary
  pub table : Decoding
  pub lost : Bool

-- The act is the session's for that frame, whatever happened before it, and the new session has it in its past.
pub record Accepts (frame : Frame) (old : Summary) (given : Act) (new : Summary) : Type 0 where
  pub act : (past : List Happening) → StandsFor past old → given ≡ act_of old.side frame past
  pub stands : (past : List Happening) → StandsFor past old → StandsFor (after old.side frame past) new
  pub side : new.side ≡ old.side

-- The header block that an act carries. Each is decoded, also that of a stream that is refused or closed. The empty
-- block of a stream error is that of a frame that ends none.
abbrev pub block_of : Act → Option (List ℕ)
block_of (act.Head s block last) = Some block
block_of (act.Trailers s block) = Some block
block_of (act.OldBlock block) = Some block
block_of (act.StreamError s code []) = None
block_of (act.StreamError s code (octet ∷ block)) = Some (octet ∷ block)
block_of given = None

-- the decoder is as before, but for its table
abbrev pub HasTableOf : Decoding → Decoding → Type 0
HasTableOf old new = new ≡ record old { table = new.table }

-- the block can't be decoded: it breaks, and so ends the decoder, or an earlier one did
abbrev pub RefusesBlock : Decoding → List ℕ → Decoding → Type 0
RefusesBlock old block new =
    ((old.failed ≡ true) × (new ≡ old))
    ⊎ ((old.failed ≡ false) × (new ≡ record old { table = new.table; failed = true })
    × ((fault : HpackFault) × BreaksBlock old.greatest block old.table fault))

-- what a decoder makes of a block
abbrev pub ReadsBlock : Decoding → List ℕ → Reading → Decoding → Type 0
ReadsBlock old block reading.Nothing new = ⊥
ReadsBlock old block (reading.Fields fields) new =
    (old.failed ≡ false) × HasTableOf old new × SpellsBlock old.greatest block old.table fields new.table × (list_size fields ≤ old.most)
ReadsBlock old block reading.TooLong new = (old.failed ≡ false) × HasTableOf old new × IsTooLong old block new.table
ReadsBlock old block reading.Refused new = RefusesBlock old block new

-- what a decoder makes of the block of an act
abbrev pub ReadsBlockOf : Option (List ℕ) → Decoding → Reading → Decoding → Type 0
ReadsBlockOf None old given new = (given ≡ reading.Nothing) × (new ≡ old)
ReadsBlockOf (Some block) old given new = ReadsBlock old block given new

abbrev pub is_window_update : Frame → Bool
is_window_update (WindowUpdate stream increment) = true
is_window_update frame = false

-- a frame gives this, and leaves that
pub record Means (frame : Frame) (old : Meaning) (taken : Taken) (new : Meaning) : Type 0 where
  pub session : Accepts frame old.session taken.act new.session
  pub content : taken.content ≡ content_of frame
  pub reading : ReadsBlockOf (block_of taken.act) old.table taken.reading new.table
  pub update : taken.is_update ≡ is_window_update frame
  pub found : old.lost ≡ false
  pub kept : new.lost ≡ false

-- a list of fields can be written again, and its length is a number of 32 bits
abbrev pub IsKnown : Reading → Type 0
IsKnown (reading.Fields fields) = All HasSpelling fields × (length fields < 2 ^ 32)
IsKnown given = Unit {0}
