-- The count goes on.
use Rattle.std.proofs.Common.{arith, refl}
use Rattle.tape_plot.proofs.Flowing.{flow_pauses, on_ok}
use Rattle.tape_plot.proofs.flow.Flow.pause.Goals as goal

pub returns : goal.returns
returns c = on_ok _ _ c.set.result (λ s. flow_pauses c.args.self.now _ c.shown-shown.result c.args.clock.now refl refl (omega arith) refl refl c.shown-shown.ensures s) c.set.ensures
