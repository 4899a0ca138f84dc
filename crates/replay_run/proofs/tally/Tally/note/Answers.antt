-- By the note.
use Rattle.replay_run.proofs.Tallying.{pause_counted, resume_counted}
use Rattle.replay_run.proofs.tally.Tally.note.Goals as goal

pub returns-in_ok-self-in-Pause : goal.returns-in_ok-self-in-Pause
returns-in_ok-self-in-Pause c = pause_counted c.args.self.now c.args.note.now _ _ c.in_ok-self-in-Pause.field-0 c.in-Pause.is c.in_ok-self-in-Pause.ensures

pub returns-in-Resume : goal.returns-in-Resume
returns-in-Resume c = resume_counted c.args.self.now c.args.note.now _ _ c.in-Resume.is
