-- Halves one after the other.
use Rattle.tape_plot.proofs.Laning.{fits_more, fits_self}
use Rattle.tape_plot.proofs.lane.Lane.fit.Goals as goal

pub loop-width-init : goal.loop-width-init
loop-width-init c = record { fits = fits_self _ }

pub loop-width-preserved : goal.loop-width-preserved
loop-width-preserved c = record { fits = fits_more _ _ _ c.loop-width.invariant.fits c.in_ok-halve.ensures.same }
