use Rattle.std.proofs.Common.{rules}
use Rattle.flow_gate.proofs.Reading.{known_found}
use Rattle.flow_gate.proofs.gates.Gates.is_known.Goals as goal

pub returns : goal.returns
returns c = rw (← c.self.view_is) (known_found c.self.inside.flows c.self.inside.buffers c.args.buffer _ (search rules))
