-- By the kind of the note.
use Rattle.tape_plot.proofs.Passing.{arrive_goes, frame_goes, pause_goes, resume_goes, when_ok}
use Rattle.tape_plot.proofs.flow.Flow.note.Goals as goal

pub returns-in_ok-arrive-in-Arrive-clause-goes : goal.returns-in_ok-arrive-in-Arrive-clause-goes
returns-in_ok-arrive-in-Arrive-clause-goes c = arrive_goes c.args.self.now _ c.args.note.now _ _ _ c.args.clock.now c.in-Arrive.is c.len.ensures c.in_ok-arrive-in-Arrive.ensures

pub returns-in-Frame-clause-goes : goal.returns-in-Frame-clause-goes
returns-in-Frame-clause-goes c = when_ok _ _ c.frame.result (λ f. frame_goes c.args.self.now _ c.args.note.now _ _ _ _ c.args.clock.now c.in-Frame.is f) c.frame.ensures.goes

pub returns-in_ok-pause-in-Pause-clause-goes : goal.returns-in_ok-pause-in-Pause-clause-goes
returns-in_ok-pause-in-Pause-clause-goes c = pause_goes c.args.self.now c.watch.new.self _ c.args.note.now _ _ c.args.clock.now c.in-Pause.is c.watch.ensures c.in_ok-pause-in-Pause.ensures

pub returns-in_ok-resume-in-Resume-clause-goes : goal.returns-in_ok-resume-in-Resume-clause-goes
returns-in_ok-resume-in-Resume-clause-goes c =
    resume_goes c.args.self.now c.watch-in-Resume.new.self _ c.args.note.now _ _ c.args.clock.now c.in-Resume.is c.watch-in-Resume.ensures c.in_ok-resume-in-Resume.ensures
