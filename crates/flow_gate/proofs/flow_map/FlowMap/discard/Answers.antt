use Rattle.flow_gate.proofs.ByFlow.{request_updated, response_updated}
use Rattle.flow_gate.proofs.flow_map.FlowMap.discard.Goals as goal
use Rattle.std.specs.Prelude.{None}

pub returns-then-flow : goal.returns-then-flow
returns-then-flow g c = rw (← c.self.view_is) (response_updated c.args.flow None c.self.inside.requests.entries c.self.inside.responses.entries c.discard.new.self.entries c.if-flow.true c.discard.ensures.updates.0)

pub returns-else-flow : goal.returns-else-flow
returns-else-flow g c = rw (← c.self.view_is) (request_updated c.args.flow None c.self.inside.requests.entries c.discard-else-flow.new.self.entries c.self.inside.responses.entries c.if-flow.false c.discard-else-flow.ensures.updates.0)
