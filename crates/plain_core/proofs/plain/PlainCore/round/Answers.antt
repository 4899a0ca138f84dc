-- A round's step keeps what the core stands for.
use Rattle.std.proofs.Common.{arith, refl}
use Rattle.plain_core.proofs.StepFrame.{end_less, round_ends, some_next}
use Rattle.plain_core.proofs.plain.PlainCore.round.Goals as goal
use Rattle.plain_core.specs.declared.agenda.Task.TheVariants as task

pub returns-in_default-clause-ok : goal.returns-in_default-clause-ok
returns-in_default-clause-ok c =
    round_ends c.args.self.now (record c.args.self.now { agenda = c.pop.new.self }) c.args.notes.now c.next_frame.result c.in_default.is c.next_frame.ensures refl c.requires.top c.pop.ensures

pub returns-in_default-clause-less : goal.returns-in_default-clause-less
returns-in_default-clause-less c = end_less c.args.self.now (record c.args.self.now { agenda = c.pop.new.self }) task.Round refl c.requires.top c.pop.ensures (omega arith)

pub drain_from-requires-clause-next : goal.drain_from-requires-clause-next
drain_from-requires-clause-next c = some_next c.args.self.now c.in-Some.next c.next_frame.result c.in-Some.is c.next_frame.ensures
