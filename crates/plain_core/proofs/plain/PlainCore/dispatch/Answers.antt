-- A dispatch, unless an earlier one ran out of memory.
use Rattle.plain_core.proofs.Fronts.{no_turn}
use Rattle.plain_core.proofs.plain.PlainCore.dispatch.Goals as goal

pub returns-then-self-clause-cut : goal.returns-then-self-clause-cut
returns-then-self-clause-cut c = no_turn c.args.self.now c.args.notes.now c.args.event.now
