-- One more resume of the spot.
use Rattle.tape_summary.proofs.Pausing.{resume_none, resume_some}
use Rattle.tape_summary.proofs.pauses.PauseLog.resume.Goals as goal
use Rattle.tape_summary.specs.declared.pauses.PauseLog.{PauseLog}
use Rattle.std.proofs.Common.{refl}

pub returns-in-Some : goal.returns-in-Some
returns-in-Some c =
    let mid : PauseLog = record { turn = c.args.self.now.turn; pauses = c.args.self.now.pauses; tracks = c.resume.new.self } in
    resume_some c.args.self.now mid c.end_pause.new.self c.args.spot c.in_ok-place.field-0 c.in-Some.place c.in-Some.is c.in_ok-place.ensures refl refl c.end_pause.ensures.pauses c.end_pause.ensures.turn c.end_pause.ensures.tracks

pub returns-in-None : goal.returns-in-None
returns-in-None c = resume_none c.args.self.now (record { turn = c.args.self.now.turn; pauses = c.args.self.now.pauses; tracks = c.resume.new.self }) c.args.spot c.in_ok-place.field-0 c.in-None.is c.in_ok-place.ensures refl refl
