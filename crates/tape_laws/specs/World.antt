-- The octets in their places, as the notes move them. Nothing else moves octets.
use Rattle.flow_rules.specs.declared.ids.BufferId.{BufferId}
use Rattle.flow_rules.specs.declared.ids.FlowId.{FlowId}
use Rattle.flow_notes.specs.declared.notes.Note.{Note}
use Rattle.h2_frames.specs.Head.{data_head, frame_head}
use Rattle.std.specs.Int.{to_be_bytes, w32}
use Rattle.std.specs.Prelude.{Bool, List, None, Option, Some, [], drop, if◌then◌else◌, length, take, ℕ, ◌&&◌, ◌++◌, ◌+◌, ◌==◌, ◌∷◌}
use Rattle.tape_laws.specs.Connections.{was_closed}
use Rattle.tape_laws.specs.Flows.{same_flow}
use Rattle.tape_laws.specs.History.{History, Noted}
use Rattle.tape_laws.specs.Setup.{Setup}
use Rattle.flow_rules.specs.declared.ids.BufferId.TheVariants as buffer
use Rattle.flow_notes.specs.declared.notes.CloseCause.TheVariants as closed
use Rattle.flow_notes.specs.declared.events.Event.TheVariants as event
use Rattle.flow_notes.specs.declared.notes.Note.TheVariants as note

-- a WINDOW_UPDATE frame (RFC 9113 section 6.9)
abbrev pub window_update : ℕ → ℕ → List ℕ
window_update stream n = frame_head 4 8 0 stream ++ to_be_bytes w32 n

-- the places of a flow are its receive buffer, 0, its stages from 1, and its send buffer, the last
abbrev pub last_place : {Mark : Type 0} → Setup Mark → FlowId → History Mark → ℕ
last_place setup f past = length (setup.stages f past) + 1

-- what entered the flow's receive buffer
abbrev pub received : {Mark : Type 0} → FlowId → History Mark → List ℕ
received f [] = []
received f (Noted (note.Arrive g octets) ∷ past) = received f past ++ (if same_flow g f then octets else [])
received f (step ∷ past) = received f past

-- what a place of the flow holds
abbrev pub place : {Mark : Type 0} → Setup Mark → FlowId → ℕ → History Mark → List ℕ
place setup f p [] = []
place setup f p (Noted (note.Arrive g octets) ∷ past) =
    place setup f p past ++ (if same_flow g f && (p == 0) then octets else [])
place setup f p (Noted (note.Move g q n) ∷ past) =
    let held = place setup f p past in
    let moved = take n (place setup f q past) in
    if same_flow g f then (if p == q then drop n held else (if p == q + 1 then held ++ moved else held)) else held
place setup f p (Noted (note.Frame c g n last) ∷ past) =
    drop (if same_flow g f && (p == last_place setup f past) then n else 0) (place setup f p past)
place setup f p (Noted (note.Doom x why) ∷ past) = if f.exchange == x then [] else place setup f p past
place setup f p (step ∷ past) = place setup f p past

-- what its receive buffer holds, and what its send buffer holds
abbrev pub recv : {Mark : Type 0} → Setup Mark → FlowId → History Mark → List ℕ
recv setup f past = place setup f 0 past

abbrev pub send : {Mark : Type 0} → Setup Mark → FlowId → History Mark → List ℕ
send setup f past = place setup f (last_place setup f past) past

-- what was sent on
abbrev pub sent : {Mark : Type 0} → Setup Mark → FlowId → History Mark → List ℕ
sent setup f [] = []
sent setup f (Noted (note.Frame c g n last) ∷ past) =
    sent setup f past ++ (if same_flow g f then take n (send setup f past) else [])
sent setup f (step ∷ past) = sent setup f past

-- the octets of a DATA frame of the flow's first n octets
abbrev pub data_frame : {Mark : Type 0} → Setup Mark → FlowId → ℕ → Bool → History Mark → List ℕ
data_frame setup f n last past = data_head (setup.stream f past) n last ++ take n (send setup f past)

-- the connection whose write buffer a note adds to
abbrev pub framed_on : Note → Option ℕ
framed_on (note.Frame c f n last) = Some c
framed_on (note.Head c s octets) = Some c
framed_on (note.Answer c octets) = Some c
framed_on (note.Credit c s n) = Some c
framed_on n = None

-- what the write buffer of a connection holds: a lost connection's is dropped, also where it was closed before
abbrev pub out : {Mark : Type 0} → Setup Mark → ℕ → History Mark → List ℕ
out setup c [] = []
out setup c (Noted (note.Frame d f n last) ∷ past) = out setup c past ++ (if d == c then data_frame setup f n last past else [])
out setup c (Noted (note.Head d s octets) ∷ past) = out setup c past ++ (if d == c then octets else [])
out setup c (Noted (note.Answer d octets) ∷ past) = out setup c past ++ (if d == c then octets else [])
out setup c (Noted (note.Credit d s n) ∷ past) = out setup c past ++ (if d == c then window_update s n else [])
out setup c (Noted (note.Out d n) ∷ past) = drop (if d == c then n else 0) (out setup c past)
out setup c (Noted (note.Close d code closed.Lost) ∷ past) = if d == c then [] else out setup c past
out setup c (Noted (note.Turn k (event.Gone d)) ∷ past) = if (d == c) && was_closed c past then [] else out setup c past
out setup c (step ∷ past) = out setup c past

-- what left the write buffer
abbrev pub gone : {Mark : Type 0} → Setup Mark → ℕ → History Mark → List ℕ
gone setup c [] = []
gone setup c (Noted (note.Out d n) ∷ past) = gone setup c past ++ (if d == c then take n (out setup c past) else [])
gone setup c (step ∷ past) = gone setup c past

-- a buffer's length
abbrev pub len : {Mark : Type 0} → Setup Mark → BufferId → History Mark → ℕ
len setup (buffer.Recv f) past = length (place setup f 0 past)
len setup (buffer.Stage f i) past = length (place setup f i past)
len setup (buffer.Send f) past = length (send setup f past)
len setup (buffer.Write c) past = length (out setup c past)
