-- By the note.
use Rattle.tape_summary.proofs.Peaking.{arrive_ends, doom_ends, frame_ends, move_ends, other_ends, start_ends}
use Rattle.tape_summary.proofs.peaks.PeakLog.note.Goals as goal

pub returns-in-Start : goal.returns-in-Start
returns-in-Start c = start_ends c.args.self.now c.start.new.self _ _ _ _ _ _ c.start.result c.in-Start.is c.in_ok-self.ensures c.start.ensures.started c.start.ensures.flows c.start.ensures.write c.start.ensures.limits

pub returns-in-Arrive : goal.returns-in-Arrive
returns-in-Arrive c = arrive_ends c.args.self.now c.arrive.new.self _ _ _ _ c.len.result c.arrive.result c.in-Arrive.is c.len.ensures c.in_ok-self.ensures c.arrive.ensures

pub returns-in-Move : goal.returns-in-Move
returns-in-Move c = move_ends c.args.self.now c.shift.new.self _ _ _ _ _ c.from.result c.shift.result c.in-Move.is c.from.ensures c.in_ok-self.ensures c.shift.ensures

pub returns-in-Frame : goal.returns-in-Frame
returns-in-Frame c = frame_ends c.args.self.now c.frame.new.self _ _ _ _ _ _ c.from-in-Frame.result c.frame.result c.in-Frame.is c.from-in-Frame.ensures c.in_ok-self.ensures c.frame.ensures

pub returns-in-Doom : goal.returns-in-Doom
returns-in-Doom c = doom_ends c.args.self.now c.drop_all.new.self _ _ _ _ c.drop_all.result c.in-Doom.is c.in_ok-self.ensures c.drop_all.ensures

pub returns-in_default : goal.returns-in_default
returns-in_default c = other_ends c.args.self.now _ c.args.note.now c.in_ok-self.ensures c.in_default.not-Start c.in_default.not-Arrive c.in_default.not-Move c.in_default.not-Frame c.in_default.not-Doom
