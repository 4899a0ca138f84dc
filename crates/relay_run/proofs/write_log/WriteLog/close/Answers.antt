-- By the cause.
use Rattle.relay_run.proofs.Taking.{lost_taken, other_closed}
use Rattle.relay_run.proofs.write_log.WriteLog.close.Goals as goal

pub returns-in-Lost : goal.returns-in-Lost
returns-in-Lost c = lost_taken c.args.self.now c.set.new.self c.args.conn c.args.cause _ _ c.set.result c.in-Lost.is c.level.ensures c.empty.ensures c.set.ensures

pub returns-in_default : goal.returns-in_default
returns-in_default c = other_closed c.args.self.now c.args.conn c.args.cause c.in_default.not-Lost
