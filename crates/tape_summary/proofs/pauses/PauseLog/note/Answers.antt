-- By the note.
use Rattle.tape_summary.proofs.Pausing.{logged_as, other_logged, turn_ends}
use Rattle.tape_summary.proofs.pauses.PauseLog.note.Goals as goal

pub returns-in-Turn : goal.returns-in-Turn
returns-in-Turn c = turn_ends c.args.self.now c.turn_on.new.self _ _ _ c.turn_on.result c.in-Turn.is c.turn_on.ensures.turn c.turn_on.ensures.pauses c.turn_on.ensures.tracks

pub returns-in-Pause : goal.returns-in-Pause
returns-in-Pause c = logged_as c.args.self.now c.pause.new.self _ _ c.pause.result c.in-Pause.is c.pause.ensures

pub returns-in-Resume : goal.returns-in-Resume
returns-in-Resume c = logged_as c.args.self.now c.resume.new.self _ _ c.resume.result c.in-Resume.is c.resume.ensures

pub returns-in_default : goal.returns-in_default
returns-in_default c = other_logged c.args.self.now c.args.note.now c.in_default.not-Turn c.in_default.not-Pause c.in_default.not-Resume
