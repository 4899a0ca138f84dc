-- How many octets lie in the buffers of a tape and what its read-disable counts are, told from the tape alone, which doesn't name
-- the places of a flow: its notes move octets into one place after the other.
use Rattle.flow_rules.specs.declared.ids.FlowId.{FlowId}
use Rattle.std.specs.Prelude.{Bool, List, None, Option, Some, [], false, get_or, if◌then◌else◌, length, map, min, set, ℕ, ◌&&◌, ◌++◌, ◌+◌, ◌-◌, ◌==◌, ◌||◌, ◌∷◌}
use Rattle.tape_laws.specs.Connections.{was_closed}
use Rattle.tape_laws.specs.Dispatches.{is_some_of}
use Rattle.tape_laws.specs.Flows.{same_flow}
use Rattle.tape_laws.specs.History.{History, Noted}
use Rattle.tape_laws.specs.Pauses.{count}
use Rattle.flow_notes.specs.declared.events.Event.TheVariants as event
use Rattle.flow_notes.specs.declared.notes.CloseCause.TheVariants as closed
use Rattle.flow_notes.specs.declared.notes.Note.TheVariants as note

-- The connection that a flow of a relay's pair goes to. The start of a pair names no stream, and its octets pass no places of
-- their own.
abbrev pub relayed : {Mark : Type 0} → FlowId → History Mark → Option ℕ
relayed f [] = None
relayed f (Noted (note.Start x c s d) ∷ past) =
    if (x == f.exchange) && (s == 0) then Some (if f.back then c else d) else relayed f past
relayed f (step ∷ past) = relayed f past

-- what lies at a place, where so many lie at each
abbrev pub at : List ℕ → ℕ → ℕ
at held p = get_or held p 0

-- so many come to a place that there is, or to a new one behind the last
abbrev pub filled : ℕ → ℕ → List ℕ → List ℕ
filled p n held = if p == length held then held ++ n ∷ [] else set held p (at held p + n)

-- so many go from a place to the next, at most those that lie there
abbrev pub moved : ℕ → ℕ → List ℕ → List ℕ
moved p n held =
    let m = min n (at held p) in
    if m == 0 then held else filled (p + 1) m (set held p (at held p - m))

-- the last place that octets came to
abbrev pub top : List ℕ → ℕ
top held = length held - 1

-- so many leave the last place, at most those that lie there
abbrev pub framed : ℕ → List ℕ → List ℕ
framed n held = set held (top held) (at held (top held) - n)

-- so many enter the receive buffer, where the flow isn't relayed
abbrev pub entered : Option ℕ → ℕ → List ℕ → List ℕ
entered None n held = filled 0 n held
entered (Some c) n held = held

-- how many octets lie at each place of a flow up to the last that octets came to, its receive buffer first
abbrev pub places : {Mark : Type 0} → FlowId → History Mark → List ℕ
places f [] = []
places f (Noted (note.Arrive g octets) ∷ past) =
    if same_flow g f then entered (relayed f past) (length octets) (places f past) else places f past
places f (Noted (note.Move g p n) ∷ past) = if same_flow g f then moved p n (places f past) else places f past
places f (Noted (note.Frame c g n last) ∷ past) = if same_flow g f then framed n (places f past) else places f past
places f (Noted (note.Doom x why) ∷ past) = if f.exchange == x then map (λ _. 0) (places f past) else places f past
places f (step ∷ past) = places f past

-- what a frame takes from its flow
abbrev pub taken : {Mark : Type 0} → FlowId → ℕ → History Mark → ℕ
taken f n past = let held = places f past in min n (at held (top held))

-- How many octets the write buffer of a connection holds. A frame has nine octets before its payload (RFC 9113 section 4.1), and a
-- WINDOW_UPDATE frame thirteen in all (section 6.9).
abbrev pub written : {Mark : Type 0} → ℕ → History Mark → ℕ
written c [] = 0
written c (Noted (note.Arrive f octets) ∷ past) =
    written c past + (if is_some_of (relayed f past) c then length octets else 0)
written c (Noted (note.Frame d f n last) ∷ past) = written c past + (if d == c then taken f n past + 9 else 0)
written c (Noted (note.Head d s octets) ∷ past) = written c past + (if d == c then length octets else 0)
written c (Noted (note.Answer d octets) ∷ past) = written c past + (if d == c then length octets else 0)
written c (Noted (note.Credit d s n) ∷ past) = written c past + (if d == c then 13 else 0)
written c (Noted (note.Out d n) ∷ past) = written c past - (if d == c then n else 0)
written c (Noted (note.Close d code closed.Lost) ∷ past) = if d == c then 0 else written c past
written c (Noted (note.Turn k (event.Gone d)) ∷ past) = if (d == c) && was_closed c past then 0 else written c past
written c (step ∷ past) = written c past

-- the exchange was given up
abbrev pub was_doomed : {Mark : Type 0} → ℕ → History Mark → Bool
was_doomed x [] = false
was_doomed x (Noted (note.Doom y why) ∷ past) = (y == x) || was_doomed x past
was_doomed x (step ∷ past) = was_doomed x past

-- the read-disable count that is drawn: that of the flow until its doom
abbrev pub shown_count : {Mark : Type 0} → FlowId → History Mark → ℕ
shown_count f past = if was_doomed f.exchange past then 0 else count f past
