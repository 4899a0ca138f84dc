use Rattle.std.proofs.Common.{refl}
use Rattle.wire_flows.proofs.Finals.{raised_write}
use Rattle.wire_flows.proofs.Writing.{go_raised, lows_raised}
use Rattle.wire_flows.proofs.flows.WireFlows.write_rose.Goals as goal
use Rattle.wire_flows.specs.Flows.{flows_of}

pub returns-clause-rises : goal.returns-clause-rises
returns-clause-rises c = rw (← c.self.view_is) (raised_write c.args.conn _ (flows_of c.self.inside) c.rise.new.gates refl c.rise.ensures.rises)

pub returns-clause-go : goal.returns-clause-go
returns-clause-go c = rw (← c.self.view_is) (go_raised c.args.conn (flows_of c.self.inside) c.rise.new.gates _ c.rise.ensures.rises)

pub returns-clause-lows : goal.returns-clause-lows
returns-clause-lows c = rw (← c.self.view_is) (lows_raised c.args.conn (flows_of c.self.inside) c.rise.new.gates _ c.rise.ensures.rises)
