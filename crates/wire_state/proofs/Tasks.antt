-- What tasks weigh together.
use Rattle.std.proofs.Common.{arith, refl}
use Rattle.std.proofs.lemmas.List.Sums.{sum_by-cons}
use Rattle.std.specs.Prelude.{List, [], drop, ◌+◌, ◌∷◌, ◌≡◌}
use Rattle.wire_state.specs.Agenda.{top_go}
use Rattle.wire_state.specs.Progress.{task_go, tasks_go}
use Rattle.wire_state.specs.declared.agenda.Task.{Task}

pub rest_go : (tasks : List Task) → tasks_go (drop 1 tasks) + top_go tasks ≡ tasks_go tasks
rest_go [] = refl
rest_go (t ∷ ts) = omega (arith, sum_by-cons task_go t ts)
