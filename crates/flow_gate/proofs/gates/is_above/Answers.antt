use Rattle.flow_gate.proofs.Reading.{above_in}
use Rattle.flow_gate.proofs.gates.is_above.Goals as goal
use Rattle.std.proofs.Common.{ap, ◌∙◌}

pub returns-in-Some : goal.returns-in-Some
returns-in-Some c = c.is_above.ensures ∙ ap above_in c.in-Some.ensures.value

pub returns-in-None : goal.returns-in-None
returns-in-None c = ap above_in c.in-None.ensures.value
