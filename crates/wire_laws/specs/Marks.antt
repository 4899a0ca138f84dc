-- What the history of a wire session marks besides its notes, which the tape doesn't show.
use Rattle.h2_frames.specs.Frame.{Frame}
use Rattle.h2_session.specs.declared.act.Act.{Act}
use Rattle.hpack_codec.specs.declared.fields.Field.{Field}
use Rattle.std.specs.Prelude.{List, None, Option, Some, [], ℕ, ◌∷◌}
use Rattle.tape_laws.specs.History.{History, Marked, Noted, Step}
use Rattle.tape_laws.specs.Units.{FramedUnit, Pick}
use Rattle.flow_notes.specs.declared.notes.Note.TheVariants as note

-- what the decoder gave for the field block that a frame ended
pub data Reading : Type 0 where
  NoBlock : Reading
  Fields : List Field → Reading
  TooLong : Reading
  Refused : Reading

-- A frame was taken from a connection's octets, with its act and how its field block was read; the octets that came break off
-- with a connection error of this code; a job made a client's connection drain; a unit was picked, which the next note frames.
pub data WireMark : Type 0 where
  Took : (conn : ℕ) → Frame → Act → Reading → WireMark
  Broke : (conn code : ℕ) → WireMark
  Drains : (conn : ℕ) → WireMark
  Picked : (conn : ℕ) → FramedUnit → WireMark

abbrev pub WireStep : Type 0
WireStep = Step WireMark

abbrev pub WireHistory : Type 0
WireHistory = History WireMark

-- the unit that a mark picks
abbrev pub picked_by : WireMark → Option Pick
picked_by (Picked c u) = Some (record { conn = c; unit = u })
picked_by mark = None

-- the unit that was picked just now, for the note that follows
abbrev pub just_picked : WireHistory → Option FramedUnit
just_picked (Marked (Picked c u) ∷ past) = Some u
just_picked past = None

-- a frame that was taken, and what stood before it
pub record Taking : Type 0 where
  pub conn : ℕ
  pub frame : Frame
  pub act : Act
  pub reading : Reading
  pub before : WireHistory

-- the frame that was taken last in this dispatch
abbrev pub taking : WireHistory → Option Taking
taking [] = None
taking (Noted (note.Turn k e) ∷ past) = None
taking (Marked (Took c frame a reading) ∷ past) =
    Some (record { conn = c; frame = frame; act = a; reading = reading; before = past })
taking (step ∷ past) = taking past
