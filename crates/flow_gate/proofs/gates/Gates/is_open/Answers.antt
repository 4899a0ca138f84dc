use Rattle.std.proofs.Common.{rules}
use Rattle.flow_gate.proofs.Reading.{open_found}
use Rattle.flow_gate.proofs.gates.Gates.is_open.Goals as goal

pub returns : goal.returns
returns c = rw (← c.self.view_is) (open_found c.self.inside.flows c.self.inside.buffers c.args.flow _ (search rules))
