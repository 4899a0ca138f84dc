-- Events that may come one after another.
use Rattle.flow_notes.specs.declared.events.Event.{Event}
use Rattle.tape_laws.specs.Following.{MayFollowEvent}
use Rattle.std.specs.Prelude.{List, [], ◌∷◌}

-- each of these events, the first of them first, may follow those, newest first, and the ones before it
abbrev pub MayGoOn : List Event → List Event → Type 0
MayGoOn es [] = Unit {0}
MayGoOn es (e ∷ later) = MayFollowEvent es e × MayGoOn (e ∷ es) later
