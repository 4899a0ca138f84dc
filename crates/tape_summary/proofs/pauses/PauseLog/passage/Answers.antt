-- By the passage.
use Rattle.tape_summary.proofs.Pausing.{passage_logged}
use Rattle.tape_summary.proofs.pauses.PauseLog.passage.Goals as goal

pub returns-in-One : goal.returns-in-One
returns-in-One c = passage_logged c.args.self.now c.note.new.self c.args.passage _ c.note.result c.in-One.is c.note.ensures

pub returns-in-Pauses : goal.returns-in-Pauses
returns-in-Pauses c = passage_logged c.args.self.now c.pause_all.new.self c.args.passage _ c.pause_all.result c.in-Pauses.is c.pause_all.ensures

pub returns-in-Resumes : goal.returns-in-Resumes
returns-in-Resumes c = passage_logged c.args.self.now c.resume_all.new.self c.args.passage _ c.resume_all.result c.in-Resumes.is c.resume_all.ensures
