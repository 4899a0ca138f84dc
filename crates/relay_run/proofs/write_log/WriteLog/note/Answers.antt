-- By the note.
use Rattle.relay_run.proofs.Taking.{arrive_ends, close_ends, other_ends, out_ends, start_ends, turn_ends}
use Rattle.relay_run.proofs.write_log.WriteLog.note.Goals as goal

pub returns-in-Turn : goal.returns-in-Turn
returns-in-Turn c = turn_ends c.args.self.now c.turn.new.self _ _ _ c.turn.result c.in-Turn.is c.turn.ensures

pub returns-in-Start : goal.returns-in-Start
returns-in-Start c = start_ends c.args.self.now c.pair.new.self _ _ _ _ _ c.pair.result c.in-Start.is c.pair.ensures.pairs c.pair.ensures.conns c.pair.ensures.levels c.pair.ensures.limit

pub returns-in-Arrive : goal.returns-in-Arrive
returns-in-Arrive c = arrive_ends c.args.self.now c.arrive.new.self _ _ _ c.len.result c.arrive.result c.in-Arrive.is c.len.ensures c.arrive.ensures

pub returns-in-Out : goal.returns-in-Out
returns-in-Out c = out_ends c.args.self.now c.set.new.self _ _ _ c.from.result c.level.result c.fall.result c.set.result c.in-Out.is c.from.ensures c.level.ensures c.fall.ensures c.set.ensures

pub returns-in-Close : goal.returns-in-Close
returns-in-Close c = close_ends c.args.self.now c.close.new.self _ _ _ _ c.close.result c.in-Close.is c.close.ensures

pub returns-in_default : goal.returns-in_default
returns-in_default c = other_ends c.args.self.now c.args.note.now c.in_default.not-Turn c.in_default.not-Start c.in_default.not-Arrive c.in_default.not-Out c.in_default.not-Close
