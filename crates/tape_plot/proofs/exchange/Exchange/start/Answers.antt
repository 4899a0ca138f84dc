-- It is a relay's pair, or else its flows have places of their own.
use Rattle.std.proofs.Common.{false, refl, true}
use Rattle.tape_plot.proofs.Columns.{eq_false, eq_true}
use Rattle.tape_plot.proofs.Passing.{starts}
use Rattle.tape_plot.proofs.exchange.Exchange.start.Goals as goal

pub returns-then-stream-eq0 : goal.returns-then-stream-eq0
returns-then-stream-eq0 c = starts c.args.self.now _ c.args.conn c.args.stream c.args.to true (eq_true _ _ _ refl c.if-stream-eq0.true) refl refl refl

pub returns-else-stream-eq0 : goal.returns-else-stream-eq0
returns-else-stream-eq0 c = starts c.args.self.now _ c.args.conn c.args.stream c.args.to false (eq_false _ _ _ refl c.if-stream-eq0.false) refl refl refl
