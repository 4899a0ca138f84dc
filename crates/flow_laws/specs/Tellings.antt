-- The order in which flows are paused after a rise, and told of a drain.
use Rattle.flow_rules.specs.declared.ids.BufferId.{BufferId}
use Rattle.flow_rules.specs.declared.ids.FlowId.{FlowId}
use Rattle.flow_laws.specs.Steps.{after, eased_by, fed_by}
use Rattle.std.specs.Prelude.{Bool, IsTrue, List, Some, [], false, if◌then◌else◌, map, true, ℕ, ◌++◌, ◌==◌, ◌||◌, ◌∷◌, ◌≡◌, ◌⊎◌}
use Rattle.tape_laws.specs.Connections.{was_closed}
use Rattle.tape_laws.specs.Flows.{same_buffer}
use Rattle.tape_laws.specs.History.{History, Noted, Step}
use Rattle.tape_laws.specs.Pauses.{Owed, due_pauses, pending_lows}
use Rattle.tape_laws.specs.Setup.{Setup}
use Rattle.tape_laws.specs.Sources.{watchers}
use Rattle.tape_laws.specs.Watermark.{drains_at, rises_at}
use Rattle.flow_rules.specs.declared.ids.BufferId.TheVariants as buffer
use Rattle.flow_notes.specs.declared.notes.Note.TheVariants as note

-- the pause notes of these pauses
abbrev pub pause_steps : {Mark : Type 0} → List Owed → List (Step Mark)
pause_steps due = map (λ o. Noted (note.Pause o.flow o.buffer)) due

-- the two go on alike as far as both go
abbrev pub GoAlike : {A : Type 0} → List A → List A → Type 0
GoAlike (x ∷ xs) (y ∷ ys) = (x ≡ y) × GoAlike xs ys
GoAlike xs ys = Unit {0}

-- the flows that these steps tell of the buffer's drain, in order
abbrev pub told_of : {Mark : Type 0} → BufferId → List (Step Mark) → List FlowId
told_of b [] = []
told_of b (Noted (note.Resume f a) ∷ ss) = if same_buffer a b then f ∷ told_of b ss else told_of b ss
told_of b (s ∷ ss) = told_of b ss

-- these steps doom the flow's exchange
abbrev pub dooms : {Mark : Type 0} → List (Step Mark) → FlowId → Bool
dooms [] f = false
dooms (Noted (note.Doom x why) ∷ ss) f = (f.exchange == x) || dooms ss f
dooms (s ∷ ss) f = dooms ss f

-- xs is ys, of which only flows that pass the test are left out
abbrev pub LeavesOut : (FlowId → Bool) → List FlowId → List FlowId → Type 0
LeavesOut may_go xs [] = xs ≡ []
LeavesOut may_go [] (y ∷ ys) = IsTrue (may_go y) × LeavesOut may_go [] ys
LeavesOut may_go (x ∷ xs) (y ∷ ys) = ((x ≡ y) × LeavesOut may_go xs ys) ⊎ (IsTrue (may_go y) × LeavesOut may_go (x ∷ xs) ys)

-- by none of these steps the buffer drains
abbrev pub NeverDrains : {Mark : Type 0} → Setup Mark → BufferId → List (Step Mark) → History Mark → Type 0
NeverDrains setup b [] past = Unit {0}
NeverDrains setup b (s ∷ ss) past = (drains_at setup b s past ≡ false) × NeverDrains setup b ss (s ∷ past)

-- After any step the pauses that it makes due stand, in their order, before anything else. The flows that are told of a drain,
-- and those that are still to be told, are those that watched, in their order, of which only doomed ones are left out. Of a
-- connection that was closed, lost ones among them, nobody is told.
pub record KeepsOrder {Mark : Type 0} (setup : Setup Mark) (ss : List (Step Mark)) (h : History Mark) : Type 0 where
  pub paused : GoAlike ss (pause_steps (due_pauses setup h))
  pub told : (b : BufferId) → NeverDrains setup b ss h → LeavesOut (dooms ss) (told_of b ss ++ pending_lows setup b (after ss h)) (pending_lows setup b h)
  pub silent : (c : ℕ) → was_closed c h ≡ true → told_of (buffer.Write c) ss ≡ []

-- What a step does to a source of a flow that watches it: only a step that feeds it makes it rise, and then each of its watchers is
-- to be paused, in the order in which they began to watch; only one that eases it makes it drain, and then each is to be told.
pub record Crosses {Mark : Type 0} (setup : Setup Mark) (step : Step Mark) (past : History Mark) (b : BufferId) : Type 0 where
  pub fed : rises_at setup b step past ≡ true → fed_by setup step past ≡ Some b
  pub pauses : rises_at setup b step past ≡ true
      → due_pauses setup (step ∷ past) ≡ map (λ f. record { flow = f; buffer = b }) (watchers setup b past)
  pub eased : drains_at setup b step past ≡ true → eased_by setup step past ≡ Some b
  pub tells : drains_at setup b step past ≡ true
      → pending_lows setup b (step ∷ past) ≡ pending_lows setup b past ++ watchers setup b past
