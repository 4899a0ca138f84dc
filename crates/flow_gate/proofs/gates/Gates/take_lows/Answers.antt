use Rattle.flow_gate.proofs.Calls.{lows_taken}
use Rattle.flow_gate.proofs.gates.Gates.take_lows.Goals as goal

pub invariant_of-self : goal.invariant_of-self
invariant_of-self c = (lows_taken c.args.buffer c.args.n c.self.inside.flows c.self.inside.buffers c.tell_first.new.buffers c.tell_first.ensures c.self.invariant).1

pub returns-clause-tells : goal.returns-clause-tells
returns-clause-tells c = rw (← c.self.view_is) (lows_taken c.args.buffer c.args.n c.self.inside.flows c.self.inside.buffers c.tell_first.new.buffers c.tell_first.ensures c.self.invariant).0

pub returns-clause-sound : goal.returns-clause-sound
returns-clause-sound c = (lows_taken c.args.buffer c.args.n c.self.inside.flows c.self.inside.buffers c.tell_first.new.buffers c.tell_first.ensures c.self.invariant).1.sound
