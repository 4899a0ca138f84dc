use Rattle.flow_gate.proofs.Calls.{new_gates}
use Rattle.flow_gate.proofs.Steps.{empty_board}
use Rattle.flow_gate.proofs.gates.Gates.new.Goals as goal

pub invariant_of-result : goal.invariant_of-result
invariant_of-result c = rw (c.new.ensures, c.new-2.ensures) new_gates

pub returns-clause-empty : goal.returns-clause-empty
returns-clause-empty c = rw (c.new.ensures, c.new-2.ensures) empty_board

pub returns-clause-sound : goal.returns-clause-sound
returns-clause-sound c = rw (c.new.ensures, c.new-2.ensures) new_gates.sound
