-- What the small steps of a core say again and again, in short.
use Rattle.io_ports.specs.declared.octets.NoMemory.{NoMemory}
use Rattle.std.specs.List.{slice_get}
use Rattle.std.specs.Prelude.{Result, Some, ◌≡◌}
use Rattle.plain_core.specs.Agenda.{Agenda}
use Rattle.plain_core.specs.declared.agenda.Task.{Task}
use Rattle.plain_core.specs.declared.flows.Flows.{Flows}
use Rattle.plain_core.specs.declared.plain.PlainCore.{PlainCore}

-- what a call that writes notes answers
abbrev pub Written : Type 0
Written = Result (Unit {0}) NoMemory

-- the task is on top
abbrev pub OnTop : Task → Agenda → Type 0
OnTop t agenda = slice_get agenda 0 ≡ Some t

-- only the flows and what is under way changed
abbrev pub HasFlows : Flows → PlainCore → PlainCore → Type 0
HasFlows flows old new = new ≡ record old { flows = flows; agenda = new.agenda }
