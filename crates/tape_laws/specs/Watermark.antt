-- When a buffer is above its high watermark, by its lengths at each moment so far.
use Rattle.flow_rules.specs.declared.ids.BufferId.{BufferId}
use Rattle.std.specs.Prelude.{Bool, List, [], false, if◌then◌else◌, not, ℕ, ◌&&◌, ◌-◌, ◌==◌, ◌∷◌}
use Rattle.tape_laws.specs.History.{History, Step}
use Rattle.tape_laws.specs.Setup.{Setup}
use Rattle.tape_laws.specs.Units.{Hold, Meter, StageKind}
use Rattle.tape_laws.specs.World.{len}
use Rattle.wm_buffer.specs.Watermark.{above_after}
use Rattle.flow_rules.specs.declared.ids.BufferId.TheVariants as buffer

abbrev pub kind_limit : StageKind → ℕ
kind_limit (Hold limit) = limit
kind_limit (Meter limit rate) = limit

-- the limit of the i-th stage, counted from 1
abbrev pub stage_limit : List StageKind → ℕ → ℕ
stage_limit [] i = 0
stage_limit (s ∷ ss) i = if i == 1 then kind_limit s else stage_limit ss (i - 1)

-- a buffer's limit, 0 for none
abbrev pub limit : {Mark : Type 0} → Setup Mark → BufferId → History Mark → ℕ
limit setup (buffer.Recv f) past = 0
limit setup (buffer.Stage f i) past = stage_limit (setup.stages f past) i
limit setup (buffer.Send f) past = setup.send
limit setup (buffer.Write c) past = setup.write

-- It is above from when its length passes the limit until it is at most half of it. Of plain sessions the law
-- `above_by_the_past` says so without this step: over the limit at some moment, and over half of it ever since.
abbrev pub above : {Mark : Type 0} → Setup Mark → BufferId → History Mark → Bool
above setup b [] = false
above setup b (step ∷ past) =
    above_after (limit setup b (step ∷ past)) (above setup b past) (len setup b (step ∷ past))

-- its lengths after each step, the newest first
abbrev pub lengths : {Mark : Type 0} → Setup Mark → BufferId → History Mark → List ℕ
lengths setup b [] = []
lengths setup b (step ∷ past) = len setup b (step ∷ past) ∷ lengths setup b past

-- the step makes the buffer rise, or drain
abbrev pub rises_at : {Mark : Type 0} → Setup Mark → BufferId → Step Mark → History Mark → Bool
rises_at setup b step past = not (above setup b past) && above setup b (step ∷ past)

abbrev pub drains_at : {Mark : Type 0} → Setup Mark → BufferId → Step Mark → History Mark → Bool
drains_at setup b step past = above setup b past && not (above setup b (step ∷ past))
