-- How much is still to do: each octet has its way ahead, and each thing under way its weight. Every small step lessens it.
use Rattle.exchange_core.specs.declared.exchange.Exchange.{Exchange}
use Rattle.flow_gate.specs.Board.{pending_on}
use Rattle.std.specs.List.{sum_by}
use Rattle.std.specs.Prelude.{if◌then◌else◌, length, ℕ, ◌*◌, ◌+◌, ◌≤◌}
use Rattle.plain_core.specs.declared.agenda.Task.{Task}
use Rattle.plain_core.specs.declared.plain.PlainCore.{PlainCore}
use Rattle.plain_core.specs.declared.flows.Flows.{Flows}
use Rattle.plain_core.specs.declared.flows.NextFrame.{NextFrame}
use Rattle.plain_core.specs.declared.flows.Outcome.{Outcome}
use Rattle.exchange_core.specs.Flow.{send}
use Rattle.flow_rules.specs.declared.ids.BufferId.TheVariants as buffer
use Rattle.plain_core.specs.declared.agenda.Task.TheVariants as task
use Rattle.plain_core.specs.declared.flows.Outcome.TheVariants as outcome

-- the octets of an exchange, by the places that they have ahead, and its end
abbrev pub way : Exchange → ℕ
way e = 9 * length e.request.recv + (5 * length (send e.request) + (if e.request.message.end_framed then 0 else 7))

abbrev pub ahead : Flows → ℕ
ahead flows = sum_by (λ e. way e.1) flows.exchanges.live

-- the flows that are still to be told
abbrev pub untold : Flows → ℕ
untold flows = 4 * length (pending_on flows.gates (buffer.Write 0))

abbrev pub left_in : Flows → ℕ
left_in flows = ahead flows + untold flows

-- a move lets octets go one place on
abbrev pub LessByStep : Outcome → Flows → Flows → Type 0
LessByStep (outcome.Moved m) old new = left_in new + 4 ≤ left_in old
LessByStep o old new = left_in new ≤ left_in old

-- a frame lets some go, or the end
abbrev pub of_frame : NextFrame → ℕ
of_frame next = if next.last then 7 else 5

abbrev pub weight : Task → ℕ
weight task.Round = 1
weight (task.Drain c) = 1
weight (task.Tell c) = 1
weight (task.Run f) = 1
weight (task.End x) = 2
weight (task.EarlyEnd x) = 1

abbrev pub to_go : PlainCore → ℕ
to_go core = left_in core.flows + sum_by weight core.agenda
