-- The same points in columns twice as wide.
use Rattle.tape_plot.proofs.Laning.{halved_is}
use Rattle.std.proofs.Common.{[], ap, ◌∙◌}
use Rattle.tape_plot.specs.Lanes.{drawn_of, halves}
use Rattle.tape_plot.proofs.lane.Lane.halve.Goals as goal

pub returns-clause-same : goal.returns-clause-same
returns-clause-same c = halved_is (drawn_of c.args.self.now) _ c.in-Some.ensures _ (c.in_ok-self.ensures ∙ ap (halves []) c.as_slice.ensures.value)
