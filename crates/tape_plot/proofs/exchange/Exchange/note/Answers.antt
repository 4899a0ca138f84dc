-- By the kind of the note.
use Rattle.tape_plot.proofs.Passing.{doom_goes, when_ok}
use Rattle.tape_plot.proofs.exchange.Exchange.note.Goals as goal

pub returns-in-Doom-clause-goes : goal.returns-in-Doom-clause-goes
returns-in-Doom-clause-goes c = when_ok _ _ c.drop_all.result (λ d. doom_goes c.args.self.now _ c.args.note.now _ _ c.args.clock.now c.in-Doom.is d) c.drop_all.ensures.goes
