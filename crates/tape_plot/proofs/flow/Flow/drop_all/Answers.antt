-- All octets are dropped, and the count is drawn no further.
use Rattle.std.proofs.Common.{refl}
use Rattle.tape_plot.proofs.Flowing.{flow_dooms}
use Rattle.tape_plot.proofs.Passing.{both_ok}
use Rattle.tape_plot.proofs.flow.Flow.drop_all.Goals as goal

pub returns : goal.returns
returns c = both_ok _ _ _ c.show.result (λ s m. flow_dooms c.args.self.now _ c.args.clock.now c.drop_all.ensures s m refl refl refl c.in_ok-set.ensures) c.show.ensures.shows c.show.ensures.many
