-- A line, or else a read.
use Rattle.tape_plot.proofs.Sayings.{line_goes}
use Rattle.tape_plot.proofs.tape.Tape.step.Goals as goal

pub returns-in-Some-clause-goes : goal.returns-in-Some-clause-goes
returns-in-Some-clause-goes g c = line_goes _ _ _ _ c.take_line.ensures.takes
