use Rattle.wire_flows.proofs.Boards.{keeps_writes, same_write}
use Rattle.wire_flows.proofs.Ticks.{sound_ticked, ticked_left, ticked_live}
use Rattle.wire_flows.proofs.flows.WireFlows.tick.Goals as goal
use Rattle.wire_flows.specs.Flows.{flows_of}

pub invariant_of-self : goal.invariant_of-self
invariant_of-self c = sound_ticked c.args.now (flows_of c.self.inside) c.tick.new.self c.tick.ensures.ticks.live c.tick.ensures.sound c.self.invariant

pub returns-clause-live : goal.returns-clause-live
returns-clause-live c = rw (← c.self.view_is) (ticked_live c.args.now (flows_of c.self.inside) c.tick.new.self c.tick.ensures.ticks.live)

pub returns-clause-left : goal.returns-clause-left
returns-clause-left c = rw (← c.self.view_is) (ticked_left c.args.now (flows_of c.self.inside) c.tick.new.self c.tick.ensures.ticks.live)

pub returns-clause-time : goal.returns-clause-time
returns-clause-time c = c.tick.ensures.ticks.time

pub returns-clause-writes : goal.returns-clause-writes
returns-clause-writes c = rw (← c.self.view_is) (keeps_writes (flows_of c.self.inside) (record { exchanges = c.tick.new.self; gates = c.self.inside.gates }) (λ d. same_write d c.self.inside.gates))

pub returns-clause-sound : goal.returns-clause-sound
returns-clause-sound c = sound_ticked c.args.now (flows_of c.self.inside) c.tick.new.self c.tick.ensures.ticks.live c.tick.ensures.sound c.self.invariant
