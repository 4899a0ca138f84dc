-- By the event.
use Rattle.wire_summary.proofs.Going.{accept_ends, event_ends, gone_ends, join_ends}
use Rattle.wire_summary.proofs.levels.Levels.turn.Goals as goal

pub returns-in-Accept : goal.returns-in-Accept
returns-in-Accept c = accept_ends c.args.self.now c.come.new.self _ _ c.come.result c.in-Accept.is c.come.ensures.conns c.come.ensures.limits c.come.ensures.started c.come.ensures.exchanges c.come.ensures.writes

pub returns-in-Join : goal.returns-in-Join
returns-in-Join c = join_ends c.args.self.now c.come-in-Join.new.self _ _ _ c.come-in-Join.result c.in-Join.is c.come-in-Join.ensures.conns c.come-in-Join.ensures.limits c.come-in-Join.ensures.started c.come-in-Join.ensures.exchanges c.come-in-Join.ensures.writes

pub returns-in-Gone : goal.returns-in-Gone
returns-in-Gone c = gone_ends c.args.self.now c.write_change.new.self _ _ c.write_change.result c.in-Gone.is c.write_change.ensures

pub returns-in_default : goal.returns-in_default
returns-in_default c = event_ends c.args.self.now c.args.event.now c.in_default.not-Accept c.in_default.not-Join c.in_default.not-Gone
