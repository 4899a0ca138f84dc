use Rattle.overload_core.proofs.Falling.{due}
use Rattle.overload_core.proofs.classes.next_is_due.Goals as goal

pub returns : goal.returns
returns c = λ start ends live classes state h. due start ends live state classes h
