-- Both flows are dropped.
use Rattle.std.proofs.Common.{refl}
use Rattle.tape_plot.proofs.Passing.{dooms}
use Rattle.tape_plot.proofs.exchange.Exchange.drop_all.Goals as goal

pub returns-clause-goes : goal.returns-clause-goes
returns-clause-goes c = dooms c.args.self.now _ c.args.clock.now c.in_ok-drop_all.ensures c.in_ok-drop_all-2.ensures refl
