use Rattle.flow_gate.proofs.Calls.{flow_opened}
use Rattle.flow_gate.proofs.gates.Gates.open_flow.Goals as goal

pub invariant_of-self-2 : goal.invariant_of-self-2
invariant_of-self-2 c =
    (flow_opened c.args.flow c.new.result c.self.inside.flows _ c.self.inside.buffers (rw (← c.self.view_is) at c.requires) c.new.ensures c.in_ok-put.ensures.updates c.self.invariant).1

pub returns-clause-ok : goal.returns-clause-ok
returns-clause-ok c =
    rw (← c.self.view_is) (flow_opened c.args.flow c.new.result c.self.inside.flows _ c.self.inside.buffers (rw (← c.self.view_is) at c.requires) c.new.ensures c.in_ok-put.ensures.updates c.self.invariant).0

pub returns-clause-sound : goal.returns-clause-sound
returns-clause-sound c =
    (flow_opened c.args.flow c.new.result c.self.inside.flows _ c.self.inside.buffers (rw (← c.self.view_is) at c.requires) c.new.ensures c.in_ok-put.ensures.updates c.self.invariant).1.sound
