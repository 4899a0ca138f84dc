use Rattle.flow_gate.proofs.Calls.{buffer_opened}
use Rattle.flow_gate.proofs.gates.Gates.open_buffer.Goals as goal

pub invariant_of-self-2 : goal.invariant_of-self-2
invariant_of-self-2 c =
    (buffer_opened c.args.buffer c.begun-gate.result c.self.inside.flows c.self.inside.buffers _ (rw (← c.self.view_is) at c.requires) c.begun-gate.ensures c.in_ok-put.ensures.updates c.self.invariant).1

pub returns-clause-ok : goal.returns-clause-ok
returns-clause-ok c =
    rw (← c.self.view_is) (buffer_opened c.args.buffer c.begun-gate.result c.self.inside.flows c.self.inside.buffers _ (rw (← c.self.view_is) at c.requires) c.begun-gate.ensures c.in_ok-put.ensures.updates c.self.invariant).0

pub returns-clause-sound : goal.returns-clause-sound
returns-clause-sound c =
    (buffer_opened c.args.buffer c.begun-gate.result c.self.inside.flows c.self.inside.buffers _ (rw (← c.self.view_is) at c.requires) c.begun-gate.ensures c.in_ok-put.ensures.updates c.self.invariant).1.sound
