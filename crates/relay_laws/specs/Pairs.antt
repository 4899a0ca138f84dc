-- The connections of a relay, and the pairs that they form: where the octets of each go.
use Rattle.flow_rules.specs.declared.ids.FlowId.{FlowId}
use Rattle.relay_laws.specs.declared.Feed.{Feed}
use Rattle.std.specs.Prelude.{Bool, List, None, Option, Some, [], false, filter, if◌then◌else◌, not, ℕ, ◌&&◌, ◌++◌, ◌+◌, ◌==◌, ◌||◌, ◌∷◌}
use Rattle.tape_laws.specs.Flows.{request, response}
use Rattle.tape_laws.specs.History.{History, NoMark, Noted}
use Rattle.flow_notes.specs.declared.events.Event.TheVariants as event
use Rattle.flow_notes.specs.declared.notes.Note.TheVariants as note

-- a relay's tape, newest note first; it has no marks
abbrev pub Tape : Type 0
Tape = History NoMark

-- the connection was accepted or joined, and no close note of it stands
abbrev pub is_open : ℕ → Tape → Bool
is_open c [] = false
is_open c (Noted (note.Turn k (event.Accept d)) ∷ past) = (d == c) || is_open c past
is_open c (Noted (note.Turn k (event.Join d cluster)) ∷ past) = (d == c) || is_open c past
is_open c (Noted (note.Close d code why) ∷ past) = not (d == c) && is_open c past
is_open c (step ∷ past) = is_open c past

-- the joined connections that are neither closed nor were ever paired, in the order in which they joined
abbrev pub free : Tape → List ℕ
free [] = []
free (Noted (note.Turn k (event.Join c cluster)) ∷ past) = free past ++ c ∷ []
free (Noted (note.Start x c s d) ∷ past) = filter (λ e. not (e == d)) (free past)
free (Noted (note.Close c code why) ∷ past) = filter (λ e. not (e == c)) (free past)
free (step ∷ past) = free past

-- how many pairs there ever were
abbrev pub pairs : Tape → ℕ
pairs [] = 0
pairs (Noted (note.Start x c s d) ∷ past) = pairs past + 1
pairs (step ∷ past) = pairs past

-- A pair is an exchange. Its request flow goes from the client's connection to the cluster's, its response flow back.
abbrev pub goes_to : FlowId → Tape → Option ℕ
goes_to f [] = None
goes_to f (Noted (note.Start x c s d) ∷ past) = if x == f.exchange then Some (if f.back then c else d) else goes_to f past
goes_to f (step ∷ past) = goes_to f past

abbrev pub unless_doomed : ℕ → Option Feed → Option Feed
unless_doomed x None = None
unless_doomed x (Some f) = if f.flow.exchange == x then None else Some f

-- what a connection feeds, as long as its pair is live: from the pair's start note until its doom note
abbrev pub feed : ℕ → Tape → Option Feed
feed c [] = None
feed c (Noted (note.Start x a s b) ∷ past) =
    if a == c then Some (record { flow = request x; to = b })
    else (if b == c then Some (record { flow = response x; to = a }) else feed c past)
feed c (Noted (note.Doom x why) ∷ past) = unless_doomed x (feed c past)
feed c (step ∷ past) = feed c past

-- the other flow of the pair: the one that goes to a connection, where the first comes from it
abbrev pub opposite : FlowId → FlowId
opposite f = record { exchange = f.exchange; back = not f.back }
