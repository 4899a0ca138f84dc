use Rattle.wire_flows.proofs.Answering.{one_fewer}
use Rattle.wire_flows.proofs.Boards.{keeps_writes, same_write}
use Rattle.wire_flows.proofs.Others.{seen_left, seen_live, sound_seen}
use Rattle.wire_flows.proofs.flows.WireFlows.sweep.Goals as goal
use Rattle.wire_flows.specs.Flows.{flows_of}

pub invariant_of-self : goal.invariant_of-self
invariant_of-self c = sound_seen (flows_of c.self.inside) c.sweep.new.self c.sweep.ensures.sweeps.live c.sweep.ensures.sound c.self.invariant

pub returns-clause-keeps : goal.returns-clause-keeps
returns-clause-keeps c = rw (← c.self.view_is) (record {
  live = seen_live (flows_of c.self.inside) c.sweep.new.self c.sweep.ensures.sweeps.live;
  left = seen_left (flows_of c.self.inside) c.sweep.new.self c.sweep.ensures.sweeps.live;
  time = c.sweep.ensures.sweeps.time;
  writes = keeps_writes (flows_of c.self.inside) (record { exchanges = c.sweep.new.self; gates = c.self.inside.gates }) (λ d. same_write d c.self.inside.gates);
})

pub returns-clause-fewer : goal.returns-clause-fewer
returns-clause-fewer c = rw (← c.self.view_is) (one_fewer c.sweep.result c.self.inside.exchanges.doomed c.sweep.new.self.doomed c.sweep.ensures.sweeps.doomed)

pub returns-clause-sound : goal.returns-clause-sound
returns-clause-sound c = sound_seen (flows_of c.self.inside) c.sweep.new.self c.sweep.ensures.sweeps.live c.sweep.ensures.sound c.self.invariant
