-- A row of pauses counts its flows.
use Rattle.replay_run.proofs.Tallying.{one_tallied, pause_row_tallied, resume_row_tallied}
use Rattle.replay_run.proofs.tally.Tally.passage.Goals as goal

pub returns-in-One : goal.returns-in-One
returns-in-One c = one_tallied c.args.self.now c.note.new.self c.args.passage c.in-One.note c.note.result c.in-One.is c.note.ensures

pub returns-in_ok-self-in-Pauses : goal.returns-in_ok-self-in-Pauses
returns-in_ok-self-in-Pauses c = pause_row_tallied c.args.self.now c.args.passage c.in-Pauses.flows c.in-Pauses.buffer c.in_ok-self-in-Pauses.field-0 c.in-Pauses.is c.in_ok-self-in-Pauses.ensures

pub returns-in-Resumes : goal.returns-in-Resumes
returns-in-Resumes c = resume_row_tallied c.args.self.now c.args.passage c.in-Resumes.flows c.in-Resumes.buffer c.in-Resumes.is
