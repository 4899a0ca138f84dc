use Rattle.wire_flows.proofs.Finals.{sound_new}
use Rattle.wire_flows.proofs.flows.WireFlows.new.Goals as goal

pub invariant_of-result : goal.invariant_of-result
invariant_of-result c = sound_new c.new.result c.new-2.result c.new.ensures.live c.new.ensures.sound c.new-2.ensures.empty c.new-2.ensures.sound

pub returns-clause-sound : goal.returns-clause-sound
returns-clause-sound c = sound_new c.new.result c.new-2.result c.new.ensures.live c.new.ensures.sound c.new-2.ensures.empty c.new-2.ensures.sound
