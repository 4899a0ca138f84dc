-- Events as lines of a session.
use Rattle.std.specs.Prelude.{ℕ, ◌<◌, Bool, true, false, List, [], ◌∷◌, codes, length, map}
use Rattle.std.specs.Fmt.{decimal}
use Rattle.hex.specs.Hex.{encode_lower}
use Rattle.flow_notes.specs.Fields.{FitsEvent}
use Rattle.flow_notes.specs.Hex.{IsPiece}
use Rattle.flow_notes.specs.Job.{job_words, IsJob}
use Rattle.flow_notes.specs.Line.{line_of}
use Rattle.flow_notes.specs.Name.{cluster_name}
use Rattle.flow_notes.specs.Number.{IsStream, IsRoom, IsMoment, IsCount}
use Rattle.flow_notes.specs.declared.events.Event.{Event}
use Rattle.flow_notes.specs.declared.events.Event.TheVariants as event
use Rattle.flow_notes.specs.declared.events.PlainEvent.{PlainEvent}
use Rattle.flow_notes.specs.declared.events.PlainEvent.TheVariants as plain

-- the words of a plain session's line
abbrev pub plain_words : PlainEvent → List (List ℕ)
plain_words (plain.Begin stream) = codes "open" ∷ decimal stream ∷ []
plain_words (plain.Pair first second) = codes "pair" ∷ decimal first ∷ decimal second ∷ []
plain_words (plain.Body stream octets) = codes "in" ∷ decimal stream ∷ encode_lower octets ∷ []
plain_words (plain.Finish stream) = codes "end" ∷ decimal stream ∷ []
plain_words (plain.Cut stream) = codes "reset" ∷ decimal stream ∷ []
plain_words (plain.Room n) = codes "room" ∷ decimal n ∷ []

-- the words of an event; names are those of the clusters
abbrev pub event_words : List (List ℕ) → Event → List (List ℕ)
event_words names (event.Accept conn) = codes "accept" ∷ decimal conn ∷ []
event_words names (event.Join conn cluster) = codes "join" ∷ decimal conn ∷ cluster_name names cluster ∷ []
event_words names (event.Read conn octets) = codes "read" ∷ decimal conn ∷ encode_lower octets ∷ []
event_words names (event.Gone conn) = codes "gone" ∷ decimal conn ∷ []
event_words names (event.Room conn n) = codes "room" ∷ decimal conn ∷ decimal n ∷ []
event_words names (event.Tick now) = codes "tick" ∷ decimal now ∷ []
event_words names (event.Post poster number job) = codes "post" ∷ decimal poster ∷ decimal number ∷ job_words job
event_words names (event.Obey version pressures) = codes "obey" ∷ decimal version ∷ map decimal pressures
event_words names (event.Plain happens) = plain_words happens

-- the one spelling of an event, without the newline
abbrev pub event_spelling : List (List ℕ) → Event → List ℕ
event_spelling names happens = line_of (event_words names happens)

-- whether the event belongs to a plain session
abbrev pub is_plain : Event → Bool
is_plain (event.Plain happens) = true
is_plain _ = false

-- the plain events in their ranges
abbrev pub IsPlainEvent : PlainEvent → Type 0
IsPlainEvent (plain.Begin stream) = IsStream stream
IsPlainEvent (plain.Pair first second) = IsStream first × IsStream second
IsPlainEvent (plain.Body stream octets) = IsStream stream × IsPiece octets
IsPlainEvent (plain.Finish stream) = IsStream stream
IsPlainEvent (plain.Cut stream) = IsStream stream
IsPlainEvent (plain.Room n) = IsRoom n

-- the events in their ranges, which are those that have a spelling
abbrev pub IsEvent : List (List ℕ) → Event → Type 0
IsEvent names (event.Accept conn) = Unit {0}
IsEvent names (event.Join conn cluster) = cluster < length names
IsEvent names (event.Read conn octets) = IsPiece octets
IsEvent names (event.Gone conn) = Unit {0}
IsEvent names (event.Room conn n) = IsRoom n
IsEvent names (event.Tick now) = IsMoment now
IsEvent names (event.Post poster number job) = IsCount number × IsJob job
IsEvent names (event.Obey version pressures) = IsCount version
IsEvent names (event.Plain happens) = IsPlainEvent happens

-- the events of a machine that have a spelling
abbrev pub HasEventSpelling : List (List ℕ) → Event → Type 0
HasEventSpelling names happens = IsEvent names happens × FitsEvent happens
