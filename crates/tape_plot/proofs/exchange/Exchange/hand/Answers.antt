-- The one flow goes on, and the other stays.
use Rattle.std.proofs.Common.{refl}
use Rattle.tape_plot.proofs.Passing.{hands_back, hands_on, when_ok}
use Rattle.tape_plot.proofs.exchange.Exchange.hand.Goals as goal

pub returns-then-back-clause-goes : goal.returns-then-back-clause-goes
returns-then-back-clause-goes c = when_ok _ _ c.note.result (λ g. hands_back c.args.self.now _ c.args.back c.args.note.now c.args.clock.now c.if-back.true g refl refl) c.note.ensures.goes

pub returns-else-back-clause-goes : goal.returns-else-back-clause-goes
returns-else-back-clause-goes c =
    when_ok _ _ c.note-else-back.result (λ g. hands_on c.args.self.now _ c.args.back c.args.note.now c.args.clock.now c.if-back.false g refl refl) c.note-else-back.ensures.goes
