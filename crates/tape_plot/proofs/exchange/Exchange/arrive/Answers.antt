-- Octets of a relay's pair pass no place of its own.
use Rattle.tape_plot.proofs.Passing.{arrive_fills, arrive_relayed}
use Rattle.tape_plot.proofs.exchange.Exchange.arrive.Goals as goal

pub returns-in-Some-clause-goes : goal.returns-in-Some-clause-goes
returns-in-Some-clause-goes c = arrive_relayed c.args.self.now c.args.note.now c.args.back c.args.n c.in-Some.relay c.args.clock.now c.requires c.in-Some.is

pub returns-in-Some-clause-fills : goal.returns-in-Some-clause-fills
returns-in-Some-clause-fills c = arrive_fills c.args.self.now c.args.note.now c.args.back c.args.n c.in-Some.relay c.goes_to-conn.result c.requires c.in-Some.is c.goes_to-conn.ensures
