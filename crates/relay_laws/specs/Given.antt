-- What each event gives: the notes behind its turn note, pauses and resumes left out.
use Rattle.flow_notes.specs.declared.events.Event.{Event}
use Rattle.flow_notes.specs.declared.notes.Note.{Note}
use Rattle.relay_laws.specs.Pairs.{Tape, feed, free, is_open, pairs}
use Rattle.relay_laws.specs.World.{out}
use Rattle.relay_laws.specs.declared.Feed.{Feed}
use Rattle.std.specs.Prelude.{List, None, Option, Some, [], drop, if◌then◌else◌, is_none, length, min, nat_lt, ℕ, ◌&&◌, ◌++◌, ◌+◌, ◌==◌, ◌∷◌}
use Rattle.tape_laws.specs.History.{Noted}
use Rattle.flow_rules.specs.declared.causes.Cause.TheVariants as cause
use Rattle.flow_notes.specs.declared.notes.CloseCause.TheVariants as closed
use Rattle.flow_notes.specs.declared.events.Event.TheVariants as event
use Rattle.flow_notes.specs.declared.notes.Note.TheVariants as note

-- a client's connection is paired with the earliest free one, and closed where there is none
abbrev pub met : ℕ → List ℕ → Tape → List Note
met c [] past = note.Close c 0 closed.Overload ∷ []
met c (d ∷ ds) past = note.Start (pairs past + 1) c 0 d ∷ []

-- octets of a connection that feeds another enter that one's write buffer
abbrev pub carried : List ℕ → Option Feed → List Note
carried octets None = []
carried octets (Some f) = note.Arrive f.flow octets ∷ []

-- a connection is closed as drained where so many octets are left for it and its pair isn't live
abbrev pub drained : ℕ → ℕ → Option Feed → List Note
drained c left feeds = if left == 0 && is_none feeds then note.Close c 0 closed.Drained ∷ [] else []

-- n octets leave, if it is at least one
abbrev pub left_by : ℕ → ℕ → Tape → List Note
left_by c n past =
    if nat_lt 0 n then note.Out c n ∷ drained c (length (drop n (out c past))) (feed c past) else []

-- the pair of a lost connection is doomed and gone, and the other one ends once all was written to it
abbrev pub ended : ℕ → Option Feed → Tape → List Note
ended c None past = []
ended c (Some f) past =
    note.Doom f.flow.exchange (cause.ConnLost c) ∷ note.Gone f.flow.exchange ∷ drained f.to (length (out f.to past)) None

abbrev pub lost : ℕ → Tape → List Note
lost c past = (if is_open c past then note.Close c 0 closed.Lost ∷ [] else []) ++ ended c (feed c past) past

-- an event whose effect isn't given here has its turn note alone
abbrev pub given : Event → Tape → List Note
given (event.Accept c) past = met c (free past) past
given (event.Read c octets) past = carried octets (feed c past)
given (event.Room c n) past = left_by c (min n (length (out c past))) past
given (event.Gone c) past = lost c past
given e past = []

-- what is still to stand in the dispatch, the first of it first
abbrev pub owed : Tape → List Note
owed [] = []
owed (Noted (note.Turn k e) ∷ past) = given e past
owed (Noted (note.Pause f b) ∷ past) = owed past
owed (Noted (note.Resume f b) ∷ past) = owed past
owed (step ∷ past) = drop 1 (owed past)
