-- The read-disable count of a flow, and which pauses and resumes are owed: what is due is kept as a list.
use Rattle.flow_rules.specs.declared.ids.BufferId.{BufferId}
use Rattle.flow_rules.specs.declared.ids.FlowId.{FlowId}
use Rattle.flow_notes.specs.declared.notes.Note.{Note}
use Rattle.std.specs.Prelude.{Bool, List, [], count_by, drop, false, filter, flat_map, if◌then◌else◌, map, not, option_map, option_to_list, sum_by, ℕ, ◌&&◌, ◌++◌, ◌+◌, ◌-◌, ◌==◌, ◌∷◌, ◌≡◌}
use Rattle.tape_laws.specs.Connections.{was_closed}
use Rattle.tape_laws.specs.Flows.{same_buffer, same_flow}
use Rattle.tape_laws.specs.History.{History, Marked, Noted, Step}
use Rattle.tape_laws.specs.Setup.{Setup}
use Rattle.tape_laws.specs.Sources.{EachLive, disabled, source_buffers, watchers}
use Rattle.tape_laws.specs.Watermark.{above, drains_at, rises_at}
use Rattle.tape_laws.specs.World.{framed_on, last_place}
use Rattle.flow_rules.specs.declared.ids.BufferId.TheVariants as buffer
use Rattle.flow_notes.specs.declared.notes.CloseCause.TheVariants as closed
use Rattle.flow_notes.specs.declared.notes.Note.TheVariants as note

-- how often the flow was paused, and how often resumed
abbrev pub pauses : {Mark : Type 0} → FlowId → History Mark → ℕ
pauses f [] = 0
pauses f (Noted (note.Pause g b) ∷ past) = (if same_flow g f then 1 else 0) + pauses f past
pauses f (step ∷ past) = pauses f past

abbrev pub resumes : {Mark : Type 0} → FlowId → History Mark → ℕ
resumes f [] = 0
resumes f (Noted (note.Resume g b) ∷ past) = (if same_flow g f then 1 else 0) + resumes f past
resumes f (step ∷ past) = resumes f past

-- the read-disable count: a flow is readable where it is 0
abbrev pub count : {Mark : Type 0} → FlowId → History Mark → ℕ
count f past = pauses f past - resumes f past

-- a flow and the buffer for which it is paused or resumed
pub record Owed : Type 0 where
  pub flow : FlowId
  pub buffer : BufferId

-- the buffer that the octets of a place of the flow lie in
abbrev pub place_buffer : {Mark : Type 0} → Setup Mark → FlowId → ℕ → History Mark → BufferId
place_buffer setup f p past =
    if p == 0 then buffer.Recv f else (if p == last_place setup f past then buffer.Send f else buffer.Stage f p)

-- the buffers that a note makes longer
abbrev pub fed : {Mark : Type 0} → Setup Mark → Note → History Mark → List BufferId
fed setup (note.Move f p n) past = place_buffer setup f (p + 1) past ∷ []
fed setup n past = option_to_list (option_map (λ c. buffer.Write c) (framed_on n))

-- one pause for each watcher of a buffer that rose
abbrev pub pauses_of_rise : {Mark : Type 0} → Setup Mark → Step Mark → History Mark → List Owed
pauses_of_rise setup (Noted n) past =
    flat_map (λ b. map (λ f. record { flow = f; buffer = b }) (watchers setup b past))
    (filter (λ b. rises_at setup b (Noted n) past) (fed setup n past))
pauses_of_rise setup (Marked m) past = []

-- one pause for each flow of a new exchange whose write buffer is above
abbrev pub pauses_of_start : {Mark : Type 0} → Setup Mark → ℕ → History Mark → List Owed
pauses_of_start setup x past =
    flat_map
    (λ f. map (λ b. record { flow = f; buffer = b }) (filter (λ b. above setup b past) (source_buffers setup f past)))
    (setup.flows x)

-- the pauses that have to follow, in order, before any other step
abbrev pub due_pauses : {Mark : Type 0} → Setup Mark → History Mark → List Owed
due_pauses setup [] = []
due_pauses setup (Noted (note.Pause f b) ∷ past) = drop 1 (due_pauses setup past)
due_pauses setup (Noted (note.Start x c s d) ∷ past) = pauses_of_start setup x (Noted (note.Start x c s d) ∷ past)
due_pauses setup (step ∷ past) = pauses_of_rise setup step past

-- the watchers of a buffer b where it is a, which the step makes shorter and which drains by it
abbrev pub told_of_drain : {Mark : Type 0} → Setup Mark → BufferId → BufferId → Step Mark → History Mark → List FlowId
told_of_drain setup b a step past = if same_buffer b a && drains_at setup b step past then watchers setup b past else []

-- The flows that are still to be told that the buffer drained, in order. A doom's own buffers have no watcher left.
abbrev pub pending_lows : {Mark : Type 0} → Setup Mark → BufferId → History Mark → List FlowId
pending_lows setup b [] = []
pending_lows setup b (Noted (note.Resume f a) ∷ past) = drop (if same_buffer a b then 1 else 0) (pending_lows setup b past)
pending_lows setup b (Noted (note.Doom x why) ∷ past) = filter (λ f. not (f.exchange == x)) (pending_lows setup b past)
pending_lows setup b (Noted (note.Move f p n) ∷ past) =
    pending_lows setup b past ++ told_of_drain setup b (place_buffer setup f p past) (Noted (note.Move f p n)) past
pending_lows setup b (Noted (note.Frame c f n last) ∷ past) =
    pending_lows setup b past ++ told_of_drain setup b (buffer.Send f) (Noted (note.Frame c f n last)) past
pending_lows setup b (Noted (note.Out c n) ∷ past) =
    pending_lows setup b past ++ told_of_drain setup b (buffer.Write c) (Noted (note.Out c n)) past
pending_lows setup b (Noted (note.Close c code closed.Lost) ∷ past) =
    pending_lows setup b past ++ told_of_drain setup b (buffer.Write c) (Noted (note.Close c code closed.Lost)) past
pending_lows setup b (step ∷ past) = pending_lows setup b past

-- the head of a list is this
abbrev pub Heads : {A : Type 0} → A → List A → Type 0
Heads x [] = ⊥
Heads x (y ∷ ys) = x ≡ y

-- the write buffer of a connection that was closed: its drain is told to nobody, since its flows are doomed next
abbrev pub is_silent : {Mark : Type 0} → BufferId → History Mark → Bool
is_silent (buffer.Write c) past = was_closed c past
is_silent b past = false

-- A pause stands only where it is the next that is due, a resume only where it is the next that is pending,
-- and any other step only where no pause is due.
abbrev pub PausesInOrder : {Mark : Type 0} → Setup Mark → Step Mark → History Mark → Type 0
PausesInOrder setup (Noted (note.Pause f b)) past = Heads (record { flow = f; buffer = b }) (due_pauses setup past)
PausesInOrder setup (Noted (note.Resume f b)) past =
    (due_pauses setup past ≡ []) × Heads f (pending_lows setup b past) × (is_silent b past ≡ false)
PausesInOrder setup step past = due_pauses setup past ≡ []

-- how often the flow has still to be told
abbrev pub lows : {Mark : Type 0} → Setup Mark → FlowId → History Mark → ℕ
lows setup f past = sum_by (λ b. count_by (same_flow f) (pending_lows setup b past)) (source_buffers setup f past)

-- the count is the number of sources that are above, and of lows that are pending
abbrev pub IsCounted : {Mark : Type 0} → Setup Mark → History Mark → Type 0
IsCounted setup past = EachLive setup (λ f. count f past ≡ disabled setup f past + lows setup f past) past
