-- What is under way in a dispatch, with what was begun last in front.
use Rattle.flow_rules.specs.declared.ids.FlowId.{FlowId}
use Rattle.flow_gate.specs.Ids.{same_flow}
use Rattle.number_set.specs.NumberSet.{has}
use Rattle.std.specs.Prelude.{Bool, List, [], false, if◌then◌else◌, ℕ, ◌==◌, ◌∷◌}
use Rattle.wire_state.specs.Progress.{task_go}
use Rattle.wire_state.specs.declared.agenda.Task.{Task}
use Rattle.wire_state.specs.declared.agenda.Task.TheVariants as task

abbrev pub Agenda : Type 0
Agenda = List Task

-- the task runs the flow
abbrev pub is_run_of : FlowId → Task → Bool
is_run_of f (task.Run course tried) = same_flow course.flow f
is_run_of f t = false

-- the task drains the connection
abbrev pub is_drain_of : ℕ → Task → Bool
is_drain_of c (task.Drain d) = d == c
is_drain_of c t = false

-- what the task on top may still begin
abbrev pub top_go : Agenda → ℕ
top_go [] = 0
top_go (t ∷ ts) = task_go t

-- the dispatch changed something at the connection
abbrev pub stirred_at : ℕ → List ℕ → ℕ
stirred_at c conns = if has conns c then 1 else 0
