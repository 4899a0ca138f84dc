use Rattle.flow_gate.proofs.ByFlow.{request_updated, response_updated}
use Rattle.flow_gate.proofs.Naming.{on_err, on_ok}
use Rattle.flow_gate.proofs.flow_map.FlowMap.put.Goals as goal
use Rattle.flow_gate.specs.Named.{both}
use Rattle.paged_map.specs.PagedMap.{Updates}
use Rattle.std.proofs.Common.{Some, ap}
use Rattle.std.specs.Prelude.{◌≡◌}

pub returns-then-flow-clause-updates : goal.returns-then-flow-clause-updates
returns-then-flow-clause-updates g c = rw (← c.self.view_is) (on_ok (Updates c.args.flow.exchange c.self.inside.responses c.put.new.self (Some c.args.value)) _ c.put.result
    (λ h. response_updated c.args.flow (Some c.args.value) c.self.inside.requests.entries c.self.inside.responses.entries c.put.new.self.entries c.if-flow.true h.0) c.put.ensures.updates)

pub returns-then-flow-clause-err : goal.returns-then-flow-clause-err
returns-then-flow-clause-err g c = rw (← c.self.view_is) (on_err (c.put.new.self ≡ c.self.inside.responses) _ c.put.result (λ h. ap (λ m. both c.self.inside.requests.entries m.entries) h) c.put.ensures.err)

pub returns-else-flow-clause-updates : goal.returns-else-flow-clause-updates
returns-else-flow-clause-updates g c = rw (← c.self.view_is) (on_ok (Updates c.args.flow.exchange c.self.inside.requests c.put-else-flow.new.self (Some c.args.value)) _ c.put-else-flow.result
    (λ h. request_updated c.args.flow (Some c.args.value) c.self.inside.requests.entries c.put-else-flow.new.self.entries c.self.inside.responses.entries c.if-flow.false h.0) c.put-else-flow.ensures.updates)

pub returns-else-flow-clause-err : goal.returns-else-flow-clause-err
returns-else-flow-clause-err g c = rw (← c.self.view_is) (on_err (c.put-else-flow.new.self ≡ c.self.inside.requests) _ c.put-else-flow.result (λ h. ap (λ m. both m.entries c.self.inside.responses.entries) h) c.put-else-flow.ensures.err)
