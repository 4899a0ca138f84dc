use Rattle.flow_gate.proofs.Reading.{watchers_found}
use Rattle.flow_gate.proofs.gates.Gates.watchers.Goals as goal
use Rattle.std.proofs.Common.{◌∙◌}
use Rattle.std.specs.Prelude.{None, Some}

pub returns-in-Some : goal.returns-in-Some
returns-in-Some c = rw (← c.self.view_is) (c.watchers.ensures ∙ watchers_found c.self.inside.flows c.self.inside.buffers c.args.buffer (Some c.in-Some.gate.now) c.in-Some.ensures.value)

pub returns-in-None : goal.returns-in-None
returns-in-None c = rw (← c.self.view_is) (c.none.ensures ∙ watchers_found c.self.inside.flows c.self.inside.buffers c.args.buffer None c.in-None.ensures.value)
