-- Octets leave the last place.
use Rattle.std.proofs.Common.{ap, refl, ℕ, ◌∙◌}
use Rattle.tape_plot.proofs.Flowing.{flow_frames}
use Rattle.tape_plot.specs.Levels.{framed}
use Rattle.tape_plot.proofs.flow.Flow.frame.Goals as goal

pub returns-clause-goes : goal.returns-clause-goes
returns-clause-goes c =
    flow_frames c.args.self.now _ c.args.n c.args.clock.now (c.frame-taken.ensures.held ∙ ap (λ (v : ℕ). framed v c.args.self.now.held.levels.items) c.from.ensures) c.in_ok-show.ensures.shows c.in_ok-show.ensures.many refl refl refl refl
