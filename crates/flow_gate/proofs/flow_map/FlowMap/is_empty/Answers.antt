use Rattle.flow_gate.proofs.ByFlow.{length-both}
use Rattle.flow_gate.proofs.flow_map.FlowMap.is_empty.Goals as goal
use Rattle.flow_gate.specs.Named.{both}
use Rattle.std.proofs.Common.{ap, arith}
use Rattle.std.specs.Prelude.{length, ◌+◌, ◌==◌, ◌≡◌}

pub returns : goal.returns
returns g c =
    let all : c.len.result + c.len-2.result ≡ length (both c.self.inside.requests.entries c.self.inside.responses.entries) =
    omega (arith, c.len.ensures.len, c.len-2.ensures.len, length-both c.self.inside.requests.entries c.self.inside.responses.entries) in
    rw (← c.self.view_is) (ap (λ n. n == 0) all)
