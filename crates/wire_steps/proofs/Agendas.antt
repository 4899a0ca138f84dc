-- What the task on top weighs.
use Rattle.std.specs.Prelude.{List, Some, [], slice_get, ◌∷◌, ◌≡◌}
use Rattle.wire_state.specs.Agenda.{top_go}
use Rattle.wire_state.specs.Progress.{task_go}
use Rattle.wire_state.specs.declared.agenda.Task.{Task}

pub top_weight : (tasks : List Task) (t : Task) → slice_get tasks 0 ≡ Some t → top_go tasks ≡ task_go t
top_weight [] t e = absurd (cc e)
top_weight (x ∷ xs) t e = cc e
