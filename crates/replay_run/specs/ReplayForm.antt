-- What `replay` does, by the form of its words.
use Rattle.replay_run.specs.ReplayDrill.{DrillsAs}
use Rattle.replay_run.specs.Replays.{Replays}
use Rattle.replay_run.specs.declared.form.Form.{Form}
use Rattle.session_run.specs.declared.status.Status.{Status}
use Rattle.std.specs.Prelude.{List, Option, ℕ, ◌≡◌}
use Rattle.replay_run.specs.declared.form.Form.TheVariants as form

-- a drill leaves the session unread; what a replay does that reads a configuration too is told by clauses of their own
abbrev pub ReplaysForm : Form → (left_old left_new out_old out_new : Option (List ℕ)) → Status → Type 0
ReplaysForm form.Plain left_old left_new out_old out_new status = Replays left_old left_new out_old out_new status
ReplaysForm form.Wire left_old left_new out_old out_new status = Unit {0}
ReplaysForm form.Shed left_old left_new out_old out_new status = Unit {0}
ReplaysForm form.Relay left_old left_new out_old out_new status = Unit {0}
ReplaysForm (form.Drill n) left_old left_new out_old out_new status = (left_new ≡ left_old) × DrillsAs n out_old out_new status
