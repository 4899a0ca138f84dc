use Rattle.flow_gate.proofs.ByFlow.{at-request, at-response}
use Rattle.flow_gate.proofs.flow_map.FlowMap.get.Goals as goal
use Rattle.std.proofs.Common.{◌∙◌}

pub returns-then-flow : goal.returns-then-flow
returns-then-flow g c = rw (← c.self.view_is) (record { value = c.get.ensures.value ∙ at-response c.args.flow c.self.inside.requests.entries c.self.inside.responses.entries c.if-flow.true })

pub returns-else-flow : goal.returns-else-flow
returns-else-flow g c = rw (← c.self.view_is) (record { value = c.get-else-flow.ensures.value ∙ at-request c.args.flow c.self.inside.requests.entries c.self.inside.responses.entries c.if-flow.false })
