use Rattle.flow_gate.proofs.ByFlow.{at-request, at-response, request_written, response_written}
use Rattle.flow_gate.proofs.flow_map.FlowMap.get_mut.Goals as goal
use Rattle.flow_gate.specs.Named.{both}
use Rattle.std.proofs.Common.{ap, refl, ◌∙◌}

pub returns-then-flow : goal.returns-then-flow
returns-then-flow g c = rw (← c.self.view_is) (
  (
    refl,
    λ w. response_written c.args.flow w c.self.inside.requests.entries c.self.inside.responses.entries _ c.if-flow.true (c.get_mut.follows.holds w).0,
    ap (λ m. both c.self.inside.requests.entries m.entries) c.get_mut.follows.holds-at-none,
  ),
  record { writes_back = tt; value = c.get_mut.ensures.value ∙ at-response c.args.flow c.self.inside.requests.entries c.self.inside.responses.entries c.if-flow.true },
)

pub returns-else-flow : goal.returns-else-flow
returns-else-flow g c = rw (← c.self.view_is) (
  (
    refl,
    λ w. request_written c.args.flow w c.self.inside.requests.entries _ c.self.inside.responses.entries c.if-flow.false (c.get_mut-else-flow.follows.holds w).0,
    ap (λ m. both m.entries c.self.inside.responses.entries) c.get_mut-else-flow.follows.holds-at-none,
  ),
  record { writes_back = tt; value = c.get_mut-else-flow.ensures.value ∙ at-request c.args.flow c.self.inside.requests.entries c.self.inside.responses.entries c.if-flow.false },
)
