-- There is less room in what is held.
use Rattle.tape_plot.proofs.Stopping.{less_room}
use Rattle.tape_plot.proofs.tape.Tape.read_more.Goals as goal

pub returns-in-Ok-clause-less : goal.returns-in-Ok-clause-less
returns-in-Ok-clause-less g c = less_room _ _ _ c.in-Ok.n c.in-Ok.ensures.count c.if-n-gt0.true c.in-Ok.ensures.room
