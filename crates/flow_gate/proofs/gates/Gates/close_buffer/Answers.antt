use Rattle.flow_gate.proofs.Calls.{buffer_closed}
use Rattle.flow_gate.proofs.gates.Gates.close_buffer.Goals as goal

pub invariant_of-self : goal.invariant_of-self
invariant_of-self c = (buffer_closed c.args.buffer c.self.inside.flows c.self.inside.buffers _ (rw (← c.self.view_is) at c.requires.unwatched) c.discard.ensures c.self.invariant).1

pub returns-clause-closes : goal.returns-clause-closes
returns-clause-closes c = rw (← c.self.view_is) (buffer_closed c.args.buffer c.self.inside.flows c.self.inside.buffers _ (rw (← c.self.view_is) at c.requires.unwatched) c.discard.ensures c.self.invariant).0

pub returns-clause-sound : goal.returns-clause-sound
returns-clause-sound c = (buffer_closed c.args.buffer c.self.inside.flows c.self.inside.buffers _ (rw (← c.self.view_is) at c.requires.unwatched) c.discard.ensures c.self.invariant).1.sound
