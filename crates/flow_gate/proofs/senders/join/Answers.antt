use Rattle.flow_gate.proofs.Opening.{left_back}
use Rattle.flow_gate.proofs.senders.join.Goals as goal

pub returns-in-Err-clause-buffers : goal.returns-in-Err-clause-buffers
returns-in-Err-clause-buffers c = left_back c.args.flow c.args.conn c.in_ok-place.place c.in-Some.gate.now c.add.new.self c.remove.new.self c.args.buffers.now _
    c.in-Some.ensures.value c.in_ok-place.ensures.new_place c.in_ok-place.ensures.last c.remove.ensures
    ((c.write_mut.follows.holds c.remove.new.self).1 c.requires.known) c.requires.apart
