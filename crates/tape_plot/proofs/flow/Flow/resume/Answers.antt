-- The count goes on.
use Rattle.std.proofs.Common.{arith, refl}
use Rattle.tape_plot.proofs.Flowing.{flow_resumes, on_ok}
use Rattle.tape_plot.proofs.flow.Flow.resume.Goals as goal

pub returns : goal.returns
returns c = on_ok _ _ c.set.result (λ s. flow_resumes c.args.self.now _ c.shown-shown.result c.args.clock.now refl refl refl (omega arith) refl c.shown-shown.ensures s) c.set.ensures
