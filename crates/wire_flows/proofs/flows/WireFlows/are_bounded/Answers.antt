use Rattle.wire_flows.proofs.Answering.{all_bounded}
use Rattle.wire_flows.proofs.flows.WireFlows.are_bounded.Goals as goal
use Rattle.wire_flows.specs.Flows.{flows_of}

pub returns : goal.returns
returns c = rw (← c.self.view_is) (all_bounded (flows_of c.self.inside) c.self.invariant)
