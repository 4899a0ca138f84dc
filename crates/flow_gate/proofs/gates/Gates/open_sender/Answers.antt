use Rattle.flow_gate.proofs.Opening.{apart_shut, seen_as, sender_held, sender_opened, taken_back, write_there}
use Rattle.flow_gate.proofs.gates.Gates.open_sender.Goals as goal

pub join-requires-clause-known : goal.join-requires-clause-known
join-requires-clause-known c = write_there c.args.flow c.in_ok-own.own c.args.conn c.self.inside.flows c.self.inside.buffers c.line_up.new.buffers
    (rw (← c.self.view_is) at c.requires.known) c.in_ok-own.ensures.ok

pub join-requires-clause-apart : goal.join-requires-clause-apart
join-requires-clause-apart c = apart_shut c.args.flow c.in_ok-own.own c.args.conn c.self.inside.flows c.self.inside.buffers c.line_up.new.buffers
    (rw (← c.self.view_is) at c.requires.closed) c.in_ok-own.ensures.ok c.self.invariant

-- the flow is there
pub invariant_of-self-in-Ok : goal.invariant_of-self-in-Ok
invariant_of-self-in-Ok c = (sender_opened c.args.flow c.in_ok-own.own c.args.conn c.in-Ok.above c.self.inside.flows c.join.new.flows c.self.inside.buffers c.line_up.new.buffers c.join.new.buffers
    (rw (← c.self.view_is) at c.requires.closed) (rw (← c.self.view_is) at c.requires.unknown) c.in_ok-own.ensures.ok c.in-Ok.ensures.ok c.self.invariant).1

pub returns-in-Ok-clause-answer : goal.returns-in-Ok-clause-answer
returns-in-Ok-clause-answer c = rw (← c.self.view_is) (sender_held c.args.flow c.in_ok-own.own c.args.conn c.in-Ok.above c.self.inside.flows c.join.new.flows c.self.inside.buffers c.line_up.new.buffers c.join.new.buffers
    (rw (← c.self.view_is) at c.requires.closed) (rw (← c.self.view_is) at c.requires.unknown) c.in_ok-own.ensures.ok c.in-Ok.ensures.ok c.self.invariant)

pub returns-in-Ok-clause-ok : goal.returns-in-Ok-clause-ok
returns-in-Ok-clause-ok c = rw (← c.self.view_is) (sender_opened c.args.flow c.in_ok-own.own c.args.conn c.in-Ok.above c.self.inside.flows c.join.new.flows c.self.inside.buffers c.line_up.new.buffers c.join.new.buffers
    (rw (← c.self.view_is) at c.requires.closed) (rw (← c.self.view_is) at c.requires.unknown) c.in_ok-own.ensures.ok c.in-Ok.ensures.ok c.self.invariant).0

pub returns-in-Ok-clause-sound : goal.returns-in-Ok-clause-sound
returns-in-Ok-clause-sound c = (sender_opened c.args.flow c.in_ok-own.own c.args.conn c.in-Ok.above c.self.inside.flows c.join.new.flows c.self.inside.buffers c.line_up.new.buffers c.join.new.buffers
    (rw (← c.self.view_is) at c.requires.closed) (rw (← c.self.view_is) at c.requires.unknown) c.in_ok-own.ensures.ok c.in-Ok.ensures.ok c.self.invariant).1.sound

-- it isn't
pub invariant_of-self-in-Err : goal.invariant_of-self-in-Err
invariant_of-self-in-Err c = (seen_as c.self.inside.flows c.join.new.flows c.self.inside.buffers c.discard.new.self c.in-Err.ensures.flows
    (taken_back c.args.flow c.in_ok-own.own c.self.inside.flows c.self.inside.buffers c.line_up.new.buffers c.join.new.buffers c.discard.new.self
    (rw (← c.self.view_is) at c.requires.unknown) c.in_ok-own.ensures.ok c.in-Err.ensures.buffers c.discard.ensures) c.self.invariant).1

pub returns-in-Err-clause-err : goal.returns-in-Err-clause-err
returns-in-Err-clause-err c = rw (← c.self.view_is) (seen_as c.self.inside.flows c.join.new.flows c.self.inside.buffers c.discard.new.self c.in-Err.ensures.flows
    (taken_back c.args.flow c.in_ok-own.own c.self.inside.flows c.self.inside.buffers c.line_up.new.buffers c.join.new.buffers c.discard.new.self
    (rw (← c.self.view_is) at c.requires.unknown) c.in_ok-own.ensures.ok c.in-Err.ensures.buffers c.discard.ensures) c.self.invariant).0

pub returns-in-Err-clause-sound : goal.returns-in-Err-clause-sound
returns-in-Err-clause-sound c = (seen_as c.self.inside.flows c.join.new.flows c.self.inside.buffers c.discard.new.self c.in-Err.ensures.flows
    (taken_back c.args.flow c.in_ok-own.own c.self.inside.flows c.self.inside.buffers c.line_up.new.buffers c.join.new.buffers c.discard.new.self
    (rw (← c.self.view_is) at c.requires.unknown) c.in_ok-own.ensures.ok c.in-Err.ensures.buffers c.discard.ensures) c.self.invariant).1.sound
