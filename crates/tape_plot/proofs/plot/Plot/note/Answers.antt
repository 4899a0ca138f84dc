-- What is drawn goes on.
use Rattle.tape_plot.proofs.Passing.{always, when_ok}
use Rattle.tape_plot.proofs.Writing.{plot_on}
use Rattle.tape_plot.proofs.plot.Plot.note.Goals as goal

pub returns-clause-goes : goal.returns-clause-goes
returns-clause-goes c = when_ok _ _ c.mark.result (λ s. plot_on c.args.self.now _ c.args.note.now c.take.new.self c.note.new.self c.in_ok-take.ensures c.if-is_past.ensures c.in_ok-note.ensures s c.mark.ensures.clock) c.mark.ensures.levels

pub returns-clause-limits : goal.returns-clause-limits
returns-clause-limits c = always _ c.mark.result c.mark.ensures.limits
