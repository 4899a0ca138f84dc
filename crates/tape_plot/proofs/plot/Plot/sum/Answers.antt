-- The line of a peak tells a limit.
use Rattle.std.proofs.Common.{refl}
use Rattle.tape_plot.proofs.Passing.{always, when_ok}
use Rattle.tape_plot.proofs.Writing.{plot_same, tells_none, tells_peak}
use Rattle.tape_plot.proofs.plot.Plot.sum.Goals as goal

pub returns-in-Peak-clause-stays : goal.returns-in-Peak-clause-stays
returns-in-Peak-clause-stays c = always _ c.tell.result (plot_same c.args.self.now _ refl refl)

pub returns-in-Peak-clause-tells : goal.returns-in-Peak-clause-tells
returns-in-Peak-clause-tells c = when_ok _ _ c.tell.result (λ t. tells_peak _ _ c.args.line _ _ _ c.in-Peak.is t) c.tell.ensures

pub returns-in_default-clause-stays : goal.returns-in_default-clause-stays
returns-in_default-clause-stays c = plot_same c.args.self.now _ refl refl

pub returns-in_default-clause-tells : goal.returns-in_default-clause-tells
returns-in_default-clause-tells c = tells_none _ c.args.line c.in_default.not-Peak
