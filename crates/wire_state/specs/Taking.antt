-- Octets that a note moves are there.
use Rattle.flow_notes.specs.declared.notes.Note.TheVariants as note
use Rattle.std.specs.Prelude.{length, ◌≤◌}
use Rattle.tape_laws.specs.History.{EachFollows, Noted}
use Rattle.tape_laws.specs.World.{out, place, send}
use Rattle.wire_state.specs.Ways.{WayHistory, WayStep, world_setup}

-- A move takes no more octets than lie in the place that it leaves, a DATA frame no more than lie in the send buffer, and no more leave
-- for a socket than wait for it. Other notes take none.
abbrev pub TakesWhatLies : WayStep → WayHistory → Type 0
TakesWhatLies (Noted (note.Move f p n)) past = n ≤ length (place world_setup f p past)
TakesWhatLies (Noted (note.Frame c f n last)) past = n ≤ length (send world_setup f past)
TakesWhatLies (Noted (note.Out c n)) past = n ≤ length (out world_setup c past)
TakesWhatLies step past = Unit {0}

-- each note of a history does
abbrev pub EachTakesWhatLies : WayHistory → Type 0
EachTakesWhatLies h = EachFollows TakesWhatLies h
