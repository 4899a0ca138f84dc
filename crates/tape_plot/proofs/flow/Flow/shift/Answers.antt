-- Octets go to the next place.
use Rattle.std.proofs.Common.{ap, refl, ℕ, ◌∙◌}
use Rattle.tape_plot.proofs.Flowing.{flow_moves}
use Rattle.tape_plot.proofs.Passing.{both_ok}
use Rattle.tape_plot.specs.Levels.{moved}
use Rattle.tape_plot.proofs.flow.Flow.shift.Goals as goal

pub returns : goal.returns
returns c =
    both_ok _ _ _ c.show.result
    (λ s m. flow_moves c.args.self.now _ c.args.place c.args.n c.args.clock.now (c.in_ok-shift.ensures ∙ ap (λ (v : ℕ). moved c.args.place v c.args.self.now.held.levels.items) c.from.ensures) s m refl refl refl refl)
    c.show.ensures.shows c.show.ensures.many
