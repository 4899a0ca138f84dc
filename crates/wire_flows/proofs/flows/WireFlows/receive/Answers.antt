use Rattle.std.proofs.Common.{ap, refl}
use Rattle.wire_flows.proofs.Arrivals.{arrives}
use Rattle.wire_flows.proofs.flows.WireFlows.receive.Goals as goal
use Rattle.wire_flows.specs.Flows.{flows_of}

pub receive-requires : goal.receive-requires
receive-requires c = record { goes_on = rw (← c.self.view_is) at c.requires.goes_on }

pub invariant_of-self : goal.invariant_of-self
invariant_of-self c = (arrives c.args.flow c.args.octets.now c.receive.result (flows_of c.self.inside) c.receive.new.self c.self.invariant c.receive.ensures.sound c.receive.ensures.answer c.receive.ensures.flow c.receive.ensures.same (rw (← c.self.view_is) at c.requires.headed)).sound

pub returns-clause-answer : goal.returns-clause-answer
returns-clause-answer c = rw (← c.self.view_is) c.receive.ensures.answer

pub returns-clause-flow : goal.returns-clause-flow
returns-clause-flow c = rw (← c.self.view_is) c.receive.ensures.flow

pub returns-clause-same : goal.returns-clause-same
returns-clause-same c = rw (← c.self.view_is) (λ other. ap (λ x. record { exchanges = x; gates = c.self.inside.gates }) (c.receive.ensures.same other))

pub returns-clause-rest : goal.returns-clause-rest
returns-clause-rest c = rw (← c.self.view_is) refl

pub returns-clause-live : goal.returns-clause-live
returns-clause-live c = rw (← c.self.view_is) (arrives c.args.flow c.args.octets.now c.receive.result (flows_of c.self.inside) c.receive.new.self c.self.invariant c.receive.ensures.sound c.receive.ensures.answer c.receive.ensures.flow c.receive.ensures.same (rw (← c.self.view_is) at c.requires.headed)).live

pub returns-clause-left : goal.returns-clause-left
returns-clause-left c = rw (← c.self.view_is) (arrives c.args.flow c.args.octets.now c.receive.result (flows_of c.self.inside) c.receive.new.self c.self.invariant c.receive.ensures.sound c.receive.ensures.answer c.receive.ensures.flow c.receive.ensures.same (rw (← c.self.view_is) at c.requires.headed)).left

pub returns-clause-time : goal.returns-clause-time
returns-clause-time c = rw (← c.self.view_is) (arrives c.args.flow c.args.octets.now c.receive.result (flows_of c.self.inside) c.receive.new.self c.self.invariant c.receive.ensures.sound c.receive.ensures.answer c.receive.ensures.flow c.receive.ensures.same (rw (← c.self.view_is) at c.requires.headed)).time

pub returns-clause-writes : goal.returns-clause-writes
returns-clause-writes c = rw (← c.self.view_is) (arrives c.args.flow c.args.octets.now c.receive.result (flows_of c.self.inside) c.receive.new.self c.self.invariant c.receive.ensures.sound c.receive.ensures.answer c.receive.ensures.flow c.receive.ensures.same (rw (← c.self.view_is) at c.requires.headed)).writes

pub returns-clause-go : goal.returns-clause-go
returns-clause-go c = rw (← c.self.view_is) (arrives c.args.flow c.args.octets.now c.receive.result (flows_of c.self.inside) c.receive.new.self c.self.invariant c.receive.ensures.sound c.receive.ensures.answer c.receive.ensures.flow c.receive.ensures.same (rw (← c.self.view_is) at c.requires.headed)).go

pub returns-clause-sound : goal.returns-clause-sound
returns-clause-sound c = (arrives c.args.flow c.args.octets.now c.receive.result (flows_of c.self.inside) c.receive.new.self c.self.invariant c.receive.ensures.sound c.receive.ensures.answer c.receive.ensures.flow c.receive.ensures.same (rw (← c.self.view_is) at c.requires.headed)).sound
