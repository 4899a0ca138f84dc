-- By the event.
use Rattle.relay_run.proofs.Taking.{accept_taken, join_taken, other_taken}
use Rattle.relay_run.proofs.write_log.WriteLog.turn.Goals as goal

pub returns-in-Accept : goal.returns-in-Accept
returns-in-Accept c = accept_taken c.args.self.now c.come.new.self _ _ c.come.result c.in-Accept.is c.come.ensures.conns c.come.ensures.pairs c.come.ensures.levels c.come.ensures.limit

pub returns-in-Join : goal.returns-in-Join
returns-in-Join c = join_taken c.args.self.now c.come-in-Join.new.self _ _ _ c.come-in-Join.result c.in-Join.is c.come-in-Join.ensures.conns c.come-in-Join.ensures.pairs c.come-in-Join.ensures.levels c.come-in-Join.ensures.limit

pub returns-in_default : goal.returns-in_default
returns-in_default c = other_taken c.args.self.now c.args.event.now c.in_default.not-Accept c.in_default.not-Join
