-- What the summary counts: the greatest lengths, and each pause with its resume.
use Rattle.flow_rules.specs.declared.ids.BufferId.{BufferId}
use Rattle.flow_rules.specs.declared.ids.FlowId.{FlowId}
use Rattle.std.specs.Prelude.{List, Option, [], flat_map, if◌then◌else◌, length, max, slice_get, ℕ, ◌&&◌, ◌++◌, ◌∷◌}
use Rattle.tape_laws.specs.Dispatches.{started, turns}
use Rattle.tape_laws.specs.Flows.{same_buffer, same_flow}
use Rattle.tape_laws.specs.History.{History, Noted}
use Rattle.tape_laws.specs.Setup.{Setup}
use Rattle.tape_laws.specs.World.{len}
use Rattle.flow_notes.specs.declared.notes.Note.TheVariants as note

-- the greatest length that the buffer ever had
abbrev pub peak : {Mark : Type 0} → Setup Mark → BufferId → History Mark → ℕ
peak setup b [] = 0
peak setup b (step ∷ past) = max (len setup b (step ∷ past)) (peak setup b past)

-- the flows that ever were, in the order of their starts
abbrev pub all_flows : {Mark : Type 0} → Setup Mark → History Mark → List FlowId
all_flows setup past = flat_map setup.flows (started past)

-- the dispatches in which the flow was paused for the buffer, in order
abbrev pub pause_turns : {Mark : Type 0} → FlowId → BufferId → History Mark → List ℕ
pause_turns f b [] = []
pause_turns f b (Noted (note.Pause g a) ∷ past) =
    pause_turns f b past ++ (if same_flow g f && same_buffer a b then turns past ∷ [] else [])
pause_turns f b (step ∷ past) = pause_turns f b past

abbrev pub resume_turns : {Mark : Type 0} → FlowId → BufferId → History Mark → List ℕ
resume_turns f b [] = []
resume_turns f b (Noted (note.Resume g a) ∷ past) =
    resume_turns f b past ++ (if same_flow g f && same_buffer a b then turns past ∷ [] else [])
resume_turns f b (step ∷ past) = resume_turns f b past

-- a pause, and the dispatch of its resume, if it came
pub record Paused : Type 0 where
  pub flow : FlowId
  pub buffer : BufferId
  pub at : ℕ
  pub until : Option ℕ

-- the pauses in the order of their notes: the j-th resume of a flow and a buffer belongs to their j-th pause
abbrev pub paused_in : {Mark : Type 0} → History Mark → History Mark → List Paused
paused_in whole [] = []
paused_in whole (Noted (note.Pause f b) ∷ past) =
    paused_in whole past
    ++ record { flow = f; buffer = b; at = turns past; until = slice_get (resume_turns f b whole) (length (pause_turns f b past)) } ∷ []
paused_in whole (step ∷ past) = paused_in whole past

abbrev pub paused_lines : {Mark : Type 0} → History Mark → List Paused
paused_lines history = paused_in history history
