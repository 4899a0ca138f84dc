use Rattle.tape_laws.specs.Plain.{plain_setup}
use Rattle.tape_plot.proofs.Holding.{place_lengths, write_lengths}
use Rattle.tape_plot.proofs.Topping.{plain_few}
use Rattle.tape_plot.proofs.levels.plain_lengths.Goals as goal

pub returns-clause-places : goal.returns-clause-places
returns-clause-places c = λ limits h lawful has. place_lengths (plain_setup limits) h (plain_few limits h lawful.allowed has).from

pub returns-clause-writes : goal.returns-clause-writes
returns-clause-writes c = λ limits h lawful has. write_lengths (plain_setup limits) h (plain_few limits h lawful.allowed has).from
