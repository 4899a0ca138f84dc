-- By the note.
use Rattle.wire_summary.proofs.Going.{answer_ends, arrive_ends, close_ends, credit_ends, doom_ends, frame_ends, head_ends, move_ends, other_ends, out_ends, start_ends, turn_ends}
use Rattle.wire_summary.proofs.levels.Levels.note.Goals as goal

pub returns-in-Turn : goal.returns-in-Turn
returns-in-Turn c = turn_ends c.args.self.now c.turn.new.self _ _ _ c.turn.result c.in-Turn.is c.turn.ensures

pub returns-in-Start : goal.returns-in-Start
returns-in-Start c = start_ends c.args.self.now c.start.new.self _ _ _ _ _ c.start.result c.in-Start.is c.start.ensures.started c.start.ensures.limits c.start.ensures.conns c.start.ensures.exchanges c.start.ensures.writes

pub returns-in-Arrive : goal.returns-in-Arrive
returns-in-Arrive c = arrive_ends c.args.self.now c.arrive.new.self _ _ _ c.len.result c.arrive.result c.in-Arrive.is c.len.ensures c.arrive.ensures

pub returns-in-Move : goal.returns-in-Move
returns-in-Move c = move_ends c.args.self.now c.shift.new.self _ _ _ _ c.from.result c.shift.result c.in-Move.is c.from.ensures c.shift.ensures

pub returns-in-Frame : goal.returns-in-Frame
returns-in-Frame c = frame_ends c.args.self.now c.frame.new.self _ _ _ _ _ c.from-in-Frame.result c.frame.result c.in-Frame.is c.from-in-Frame.ensures c.frame.ensures

pub returns-in-Head : goal.returns-in-Head
returns-in-Head c = head_ends c.args.self.now c.put.new.self _ _ _ _ c.len-in-Head.result c.put.result c.in-Head.is c.len-in-Head.ensures c.put.ensures

pub returns-in-Answer : goal.returns-in-Answer
returns-in-Answer c = answer_ends c.args.self.now c.put-in-Answer.new.self _ _ _ c.len-in-Answer.result c.put-in-Answer.result c.in-Answer.is c.len-in-Answer.ensures c.put-in-Answer.ensures

pub returns-in-Credit : goal.returns-in-Credit
returns-in-Credit c = credit_ends c.args.self.now c.put-in-Credit.new.self _ _ _ _ c.put-in-Credit.result c.in-Credit.is c.put-in-Credit.ensures

pub returns-in-Out : goal.returns-in-Out
returns-in-Out c = out_ends c.args.self.now c.write_change.new.self _ _ _ c.from-in-Out.result c.write_change.result c.in-Out.is c.from-in-Out.ensures c.write_change.ensures

pub returns-in-Close : goal.returns-in-Close
returns-in-Close c = close_ends c.args.self.now c.close.new.self _ _ _ _ c.close.result c.in-Close.is c.close.ensures

pub returns-in-Doom : goal.returns-in-Doom
returns-in-Doom c = doom_ends c.args.self.now c.doom.new.self _ _ _ c.doom.result c.in-Doom.is c.doom.ensures

pub returns-in_default : goal.returns-in_default
returns-in_default c = other_ends c.args.self.now c.args.note.now c.in_default.not-Turn c.in_default.not-Start c.in_default.not-Arrive c.in_default.not-Move c.in_default.not-Frame c.in_default.not-Head c.in_default.not-Answer c.in_default.not-Credit c.in_default.not-Out c.in_default.not-Close c.in_default.not-Doom
