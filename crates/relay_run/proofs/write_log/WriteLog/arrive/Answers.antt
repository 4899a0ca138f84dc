-- Where the flow goes to a connection, the octets come for that one.
use Rattle.relay_run.proofs.Taking.{octets_lost, octets_taken}
use Rattle.relay_run.proofs.write_log.WriteLog.arrive.Goals as goal

pub returns : goal.returns
returns c = octets_taken c.args.self.now c.set.new.self c.args.flow c.args.n _ _ _ _ _ c.goes_to.ensures c.in-Some.is c.level.ensures c.in_ok-level.ensures c.set.ensures

pub returns-in_default : goal.returns-in_default
returns-in_default c = octets_lost c.args.self.now c.args.flow c.args.n _ c.goes_to.ensures c.in_default.not-Some
