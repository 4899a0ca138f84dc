use Rattle.flow_gate.proofs.Reading.{is_marked-board}
use Rattle.flow_gate.proofs.gates.Gates.is_marked.Goals as goal
use Rattle.std.proofs.Common.{sym, ◌∙◌}

pub returns : goal.returns
returns c = rw (← c.self.view_is) (c.is_above.ensures ∙ sym (is_marked-board c.self.inside.flows c.self.inside.buffers c.args.buffer))
