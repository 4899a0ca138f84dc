-- The order rules of a plain session's lines. Events stand newest first.
use Rattle.flow_notes.specs.Event.{IsEvent}
use Rattle.flow_notes.specs.Fields.{FitsEvent}
use Rattle.flow_notes.specs.declared.events.Event.{Event}
use Rattle.flow_notes.specs.declared.events.PlainEvent.{PlainEvent}
use Rattle.std.specs.List.{list_all}
use Rattle.std.specs.Prelude.{Bool, IsTrue, List, [], nat_lt, not, true, ℕ, ◌&&◌, ◌==◌, ◌∷◌}
use Rattle.tape_laws.specs.Dispatches.{has}
use Rattle.flow_notes.specs.declared.events.Event.TheVariants as event
use Rattle.flow_notes.specs.declared.events.PlainEvent.TheVariants as plain

-- the streams that began
abbrev pub begun : List Event → List ℕ
begun [] = []
begun (event.Plain (plain.Begin s) ∷ es) = s ∷ begun es
begun (e ∷ es) = begun es

-- the streams whose end came, that were reset, and that have a pair
abbrev pub finished : List Event → List ℕ
finished [] = []
finished (event.Plain (plain.Finish s) ∷ es) = s ∷ finished es
finished (e ∷ es) = finished es

abbrev pub cut : List Event → List ℕ
cut [] = []
cut (event.Plain (plain.Cut s) ∷ es) = s ∷ cut es
cut (e ∷ es) = cut es

abbrev pub paired : List Event → List ℕ
paired [] = []
paired (event.Plain (plain.Pair s t) ∷ es) = s ∷ paired es
paired (e ∷ es) = paired es

-- the stream takes octets: it began, and neither its end nor a reset came
abbrev pub is_flowing : List Event → ℕ → Bool
is_flowing es s = has (begun es) s && not (has (finished es) s) && not (has (cut es) s)

-- Whether an event may follow. Streams begin in the order of their numbers; a pair is of two streams that began, and
-- the first has none yet; octets and an end come while the stream flows; a reset comes once.
abbrev pub may_follow : List Event → PlainEvent → Bool
may_follow es (plain.Begin s) = list_all (λ t. nat_lt t s) (begun es)
may_follow es (plain.Pair s t) = has (begun es) s && has (begun es) t && not (s == t) && not (has (paired es) s)
may_follow es (plain.Body s octets) = is_flowing es s
may_follow es (plain.Finish s) = is_flowing es s
may_follow es (plain.Cut s) = has (begun es) s && not (has (cut es) s)
may_follow es (plain.Room n) = true

-- an event of a plain session, in its ranges, that may follow those before it
abbrev pub MayFollowEvent : List Event → Event → Type 0
MayFollowEvent es (event.Plain e) = IsEvent [] (event.Plain e) × FitsEvent (event.Plain e) × IsTrue (may_follow es e)
MayFollowEvent es e = ⊥

-- each event may follow those before it
abbrev pub MayFollowAll : List Event → Type 0
MayFollowAll [] = Unit {0}
MayFollowAll (e ∷ es) = MayFollowEvent es e × MayFollowAll es
