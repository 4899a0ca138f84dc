-- The notes of one whole dispatch, which follow from its event and from what stood before it.
use Rattle.flow_notes.specs.declared.events.Event.{Event}
use Rattle.flow_notes.specs.declared.notes.Note.{Note}
use Rattle.relay_laws.specs.Given.{given}
use Rattle.relay_laws.specs.Pairs.{Tape, feed, goes_to, opposite}
use Rattle.relay_laws.specs.Watermark.{drains_at, rises_at}
use Rattle.relay_laws.specs.declared.Feed.{Feed}
use Rattle.std.specs.Prelude.{List, None, Option, Some, [], if◌then◌else◌, ℕ, ◌++◌, ◌+◌, ◌∷◌}
use Rattle.tape_laws.specs.Dispatches.{turns}
use Rattle.tape_laws.specs.History.{Noted, onto}
use Rattle.flow_rules.specs.declared.ids.BufferId.TheVariants as buffer
use Rattle.flow_notes.specs.declared.notes.Note.TheVariants as note

-- the pause of the flow whose octets made the write buffer that it goes to rise
abbrev pub paused_by : ℕ → Note → Tape → Option ℕ → List Note
paused_by limit (note.Arrive f octets) past (Some d) =
    if rises_at limit d (Noted (note.Arrive f octets)) past then note.Pause f (buffer.Write d) ∷ [] else []
paused_by limit n past to = []

-- the resume of the flow that goes to a connection, where its write buffer drained and the pair is live
abbrev pub resumed_by : ℕ → ℕ → ℕ → Tape → Option Feed → List Note
resumed_by limit c n past None = []
resumed_by limit c n past (Some f) =
    if drains_at limit c (Noted (note.Out c n)) past then note.Resume (opposite f.flow) (buffer.Write c) ∷ [] else []

-- what stands directly behind a note
abbrev pub behind : ℕ → Note → Tape → List Note
behind limit (note.Arrive f octets) past = paused_by limit (note.Arrive f octets) past (goes_to f past)
behind limit (note.Out c n) past = resumed_by limit c n past (feed c past)
behind limit n past = []

abbrev pub spread : ℕ → List Note → Tape → List Note
spread limit [] past = []
spread limit (n ∷ ns) past =
    n ∷ behind limit n past ++ spread limit ns (onto (n ∷ behind limit n past) past)

-- the turn note, and each note that the event gives with its pause or resume
abbrev pub dispatch_notes : ℕ → Event → Tape → List Note
dispatch_notes limit e past = spread limit (note.Turn (turns past + 1) e ∷ given e past) past
