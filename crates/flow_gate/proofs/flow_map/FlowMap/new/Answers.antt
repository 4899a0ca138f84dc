use Rattle.flow_gate.proofs.flow_map.FlowMap.new.Goals as goal
use Rattle.std.proofs.Common.{refl}

pub returns : goal.returns
returns g c = rw (c.new.ensures.empty, c.new-2.ensures.empty) refl
