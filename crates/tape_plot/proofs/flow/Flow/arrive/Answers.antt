-- Octets enter the receive buffer.
use Rattle.std.proofs.Common.{refl}
use Rattle.tape_plot.proofs.Flowing.{flow_arrives}
use Rattle.tape_plot.proofs.Passing.{both_ok}
use Rattle.tape_plot.proofs.flow.Flow.arrive.Goals as goal

pub returns : goal.returns
returns c = both_ok _ _ _ c.show.result (λ s m. flow_arrives c.args.self.now _ c.args.n c.args.clock.now c.in_ok-arrive.ensures s m refl refl refl refl) c.show.ensures.shows c.show.ensures.many
