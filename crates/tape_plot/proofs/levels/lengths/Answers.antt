use Rattle.tape_plot.proofs.Holding.{place_lengths, write_lengths}
use Rattle.tape_plot.proofs.levels.lengths.Goals as goal

pub returns-clause-places : goal.returns-clause-places
returns-clause-places c = place_lengths

pub returns-clause-writes : goal.returns-clause-writes
returns-clause-writes c = write_lengths
