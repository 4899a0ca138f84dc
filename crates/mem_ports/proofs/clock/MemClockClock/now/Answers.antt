use Rattle.mem_ports.proofs.Telling.{tells_one_more}
use Rattle.mem_ports.proofs.clock.MemClockClock.now.Goals as goal

pub returns-clause-tells : goal.returns-clause-tells
returns-clause-tells c = rw c.count.ensures (tells_one_more c.args.self.now.moments c.args.self.now.calls _ c.moment-moment.ensures.gives)
