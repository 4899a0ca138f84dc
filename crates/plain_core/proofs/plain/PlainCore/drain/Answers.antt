-- A drain's step keeps what the core stands for.
use Rattle.std.proofs.Common.{arith, refl}
use Rattle.plain_core.proofs.StepFrame.{drain_ends, drain_less, end_less, some_next}
use Rattle.plain_core.proofs.plain.PlainCore.drain.Goals as goal
use Rattle.plain_core.specs.declared.agenda.Task.TheVariants as task

pub returns-in_default-clause-ok : goal.returns-in_default-clause-ok
returns-in_default-clause-ok c =
    drain_ends c.args.self.now (record c.args.self.now { agenda = c.pop.new.self }) c.args.notes.now c.requires.top.conn refl c.requires.top.is c.pop.ensures

pub returns-in_default-clause-less : goal.returns-in_default-clause-less
returns-in_default-clause-less c = end_less c.args.self.now (record c.args.self.now { agenda = c.pop.new.self }) (task.Drain c.requires.top.conn) refl c.requires.top.is c.pop.ensures (omega arith)

pub frame-requires-clause-next : goal.frame-requires-clause-next
frame-requires-clause-next c = some_next c.args.self.now c.in-Some.next c.next_frame.result c.in-Some.is c.next_frame.ensures

pub returns-clause-less : goal.returns-clause-less
returns-clause-less c = drain_less c.args.self.now c.frame.new.self c.frame.result c.frame.ensures.less
