use Rattle.wire_flows.proofs.flows.WireFlows.are_sound.Goals as goal
use Rattle.wire_flows.specs.Flows.{flows_of}

pub returns : goal.returns
returns c = rw (← c.self.view_is) c.self.invariant
