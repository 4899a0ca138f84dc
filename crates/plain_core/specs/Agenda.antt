-- What is under way in a dispatch, with what was begun last in front.
use Rattle.flow_rules.specs.declared.ids.FlowId.{FlowId}
use Rattle.std.specs.List.{list_any}
use Rattle.std.specs.Prelude.{Bool, List, None, Option, Some, [], drop, false, if◌then◌else◌, true, ℕ, ◌==◌, ◌∷◌}
use Rattle.tape_laws.specs.Flows.{request, same_flow}
use Rattle.plain_core.specs.declared.agenda.Task.{Task}
use Rattle.plain_core.specs.declared.flows.Framed.{Framed}
use Rattle.plain_core.specs.declared.flows.NextFrame.{NextFrame}
use Rattle.plain_core.specs.declared.agenda.Task.TheVariants as task

abbrev pub Agenda : Type 0
Agenda = List Task

-- the task runs the flow
abbrev pub is_run_of : FlowId → Task → Bool
is_run_of f (task.Run g) = same_flow g f
is_run_of f t = false

-- the task drains the connection
abbrev pub is_drain_of : ℕ → Task → Bool
is_drain_of c (task.Drain d) = d == c
is_drain_of c t = false

-- the task tells the watchers of the connection's write buffer
abbrev pub is_telling : ℕ → Task → Bool
is_telling c (task.Tell d) = d == c
is_telling c t = false

-- the round stands at the bottom
abbrev pub is_rounded : Agenda → Bool
is_rounded [] = false
is_rounded (task.Round ∷ []) = true
is_rounded (t ∷ ts) = is_rounded ts

-- the flow is run from now on, unless it is being run
abbrev pub with_run : FlowId → Agenda → Agenda
with_run f agenda = if list_any (is_run_of f) agenda then agenda else task.Run f ∷ agenda

-- the connection is drained from now on, unless it is being drained
abbrev pub with_drain : ℕ → Agenda → Agenda
with_drain c agenda = if list_any (is_drain_of c) agenda then agenda else task.Drain c ∷ agenda

-- after a move the connection is drained, and the run on top ends where nothing is left to move
abbrev pub after_move : Bool → Agenda → Agenda
after_move is_all agenda = with_drain 0 (if is_all then drop 1 agenda else agenda)

-- after a frame the flow whose send buffer drained is run, and then an end is seen to
abbrev pub after_frame : NextFrame → Framed → Agenda → Agenda
after_frame next framed agenda =
    let ended = if next.last then task.End next.exchange ∷ agenda else agenda in
    if framed.drained then with_run (request next.exchange) ended else ended

-- after the doom of an exchange that ended its pair is doomed, if it has one
abbrev pub after_end : Option ℕ → Agenda → Agenda
after_end None agenda = drop 1 agenda
after_end (Some pair) agenda = task.EarlyEnd pair ∷ drop 1 agenda
