-- Lawful tapes of one stream.
use Rattle.std.proofs.Common.{lit<, lit≤, refl}
use Rattle.std.specs.Prelude.{[], false, ◌∷◌, ◌≡◌}
use Rattle.tape_laws.specs.Plain.{plain_setup}
use Rattle.tape_laws.specs.World.{sent}
use Rattle.tape_rows.proofs.Tapes.{Whole, begun, eased, limits_0_1, limits_10_19, limits_8_10, limits_8_30, moved, noted, octets, q1, write}
use Rattle.flow_rules.specs.declared.ids.BufferId.TheVariants as buffer
use Rattle.flow_notes.specs.declared.events.Event.TheVariants as event
use Rattle.flow_notes.specs.declared.notes.Note.TheVariants as note
use Rattle.flow_notes.specs.declared.events.PlainEvent.TheVariants as plain

pub nothing_is_whole : Whole limits_8_30 []
nothing_is_whole = search (lit≤)

pub begun_is_whole : Whole limits_8_30 begun
begun_is_whole = search (lit≤)

-- a rise and a drain in one dispatch
pub rise_and_drain : Whole limits_8_30 (note.Resume q1 (buffer.Send q1) ∷ note.Frame 0 q1 10 false ∷ note.Pause q1 (buffer.Send q1) ∷ moved)
rise_and_drain = search (lit≤, lit<)

-- the ten octets that came were sent on
pub all_sent : sent (plain_setup limits_8_30) q1 (noted (note.Resume q1 (buffer.Send q1) ∷ note.Frame 0 q1 10 false ∷ note.Pause q1 (buffer.Send q1) ∷ moved)) ≡ octets 10
all_sent = refl

-- the write buffer pauses the flow until it has drained to half its limit
pub write_pauses : Whole limits_8_10 (note.Resume q1 write ∷ eased)
write_pauses = search (lit≤, lit<)

-- a length that is equal to the limit isn't above
pub equal_is_not_above : Whole limits_10_19 (note.Frame 0 q1 10 false ∷ moved)
equal_is_not_above = search (lit≤, lit<)

-- a buffer of limit 1 drains at length 0, and one without a limit is never above
pub one_and_none : Whole limits_0_1 (note.Resume q1 write ∷ note.Out 0 1 ∷ note.Turn 4 (event.Plain (plain.Room 1)) ∷ note.Out 0 9 ∷ note.Turn 3 (event.Plain (plain.Room 9))
    ∷ note.Pause q1 write ∷ note.Frame 0 q1 1 false ∷ note.Move q1 0 1 ∷ note.Arrive q1 (octets 1) ∷ note.Turn 2 (event.Plain (plain.Body 1 (octets 1))) ∷ begun)
one_and_none = search (lit≤, lit<)
