-- The GOAWAY before a close (RFC 9113 section 6.8): a connection that is closed for an error, idleness or a flood is told so, where its
-- write buffer has room.
use Rattle.flow_notes.specs.declared.notes.CloseCause.{CloseCause}
use Rattle.proxy_config.specs.declared.config.Config.{Config}
use Rattle.std.specs.Bool.{OnTrue}
use Rattle.std.specs.Prelude.{Bool, IsTrue, false, not, true, ℕ, ◌&&◌, ◌||◌, ◌∷◌}
use Rattle.tape_laws.specs.History.{Marked, Noted}
use Rattle.tape_laws.specs.Pauses.{Heads}
use Rattle.tape_laws.specs.Units.{Farewell, FramedUnit, WantsClose}
use Rattle.tape_laws.specs.Watermark.{above}
use Rattle.wire_laws.specs.Base.{wire_base}
use Rattle.wire_laws.specs.Marks.{Picked, WireHistory, WireStep}
use Rattle.wire_rules.specs.Owed.{owed}
use Rattle.flow_rules.specs.declared.ids.BufferId.TheVariants as buffer
use Rattle.flow_notes.specs.declared.notes.CloseCause.TheVariants as closed
use Rattle.flow_notes.specs.declared.notes.Note.TheVariants as note

abbrev pub is_told : CloseCause → Bool
is_told closed.Protocol = true
is_told closed.Idle = true
is_told closed.Flood = true
is_told why = false

-- such a close is owed
abbrev pub IsFarewell : Config → ℕ → FramedUnit → WireHistory → Type 0
IsFarewell config c (Farewell code why) past =
    IsTrue (is_told why && not (above (wire_base config) (buffer.Write c) past)) × Heads (WantsClose c code why) (owed config past)
IsFarewell config c u past = Unit {0}

-- its GOAWAY was framed just before, pauses aside
abbrev pub just_told : WireHistory → Bool
just_told (Noted (note.Pause f b) ∷ past) = just_told past
just_told (Noted (note.Answer c octets) ∷ Marked (Picked d (Farewell code why)) ∷ past) = true
just_told past = false

abbrev pub TellsOfClose : Config → WireStep → WireHistory → Type 0
TellsOfClose config (Marked (Picked c u)) past = IsFarewell config c u past
TellsOfClose config (Noted (note.Close c code why)) past =
    OnTrue (is_told why) (IsTrue (just_told past || above (wire_base config) (buffer.Write c) past))
TellsOfClose config step past = Unit {0}
