-- The dispatches of a history, each of which begins with its turn note, and the exchanges that live in them.
use Rattle.flow_notes.specs.declared.events.Event.{Event}
use Rattle.std.specs.List.{list_any}
use Rattle.std.specs.Prelude.{Bool, List, None, Option, Some, [], false, filter, max, not, ℕ, ◌++◌, ◌+◌, ◌==◌, ◌∷◌}
use Rattle.tape_laws.specs.History.{History, Noted}
use Rattle.flow_notes.specs.declared.events.Event.TheVariants as event
use Rattle.flow_notes.specs.declared.notes.Note.TheVariants as note

-- the event of this dispatch
abbrev pub this_event : {Mark : Type 0} → History Mark → Option Event
this_event [] = None
this_event (Noted (note.Turn k e) ∷ past) = Some e
this_event (step ∷ past) = this_event past

-- what stood before this dispatch
abbrev pub before_dispatch : {Mark : Type 0} → History Mark → History Mark
before_dispatch [] = []
before_dispatch (Noted (note.Turn k e) ∷ past) = past
before_dispatch (step ∷ past) = before_dispatch past

-- how many dispatches began
abbrev pub turns : {Mark : Type 0} → History Mark → ℕ
turns [] = 0
turns (Noted (note.Turn k e) ∷ past) = turns past + 1
turns (step ∷ past) = turns past

-- the events of the turn notes, newest first
abbrev pub events_back : {Mark : Type 0} → History Mark → List Event
events_back [] = []
events_back (Noted (note.Turn k e) ∷ past) = e ∷ events_back past
events_back (step ∷ past) = events_back past

-- the time: the greatest moment of the ticks so far, in milliseconds
abbrev pub time : {Mark : Type 0} → History Mark → ℕ
time [] = 0
time (Noted (note.Turn k (event.Tick now)) ∷ past) = max now (time past)
time (step ∷ past) = time past

-- the exchanges that were ever started
abbrev pub started : {Mark : Type 0} → History Mark → List ℕ
started [] = []
started (Noted (note.Start x c s d) ∷ past) = started past ++ x ∷ []
started (step ∷ past) = started past

-- the live exchanges, in the order of their starts: each from its start note until its doom note
abbrev pub live : {Mark : Type 0} → History Mark → List ℕ
live [] = []
live (Noted (note.Start x c s d) ∷ past) = live past ++ x ∷ []
live (Noted (note.Doom x why) ∷ past) = filter (λ y. not (y == x)) (live past)
live (step ∷ past) = live past

-- x stands in the list
abbrev pub has : List ℕ → ℕ → Bool
has xs x = list_any (λ y. y == x) xs

-- an option names this number
abbrev pub is_some_of : Option ℕ → ℕ → Bool
is_some_of None c = false
is_some_of (Some d) c = d == c
