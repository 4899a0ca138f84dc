-- A frame keeps what the core stands for.
use Rattle.plain_core.proofs.Fronts.{cuts_none}
use Rattle.plain_core.proofs.Keeping.{on_ok}
use Rattle.plain_core.proofs.StepFrame.{frame_cuts, frame_less, frame_result}
use Rattle.plain_core.proofs.plain.PlainCore.frame.Goals as goal

pub returns-in_err-note_and_rise-clause-cut : goal.returns-in_err-note_and_rise-clause-cut
returns-in_err-note_and_rise-clause-cut c =
    frame_cuts c.args.self.now c.follow.new.self c.args.notes.now c.note_and_rise.new.notes c.frame.new.self c.args.next c.in_ok-framed.framed c.request-flow.result c.request-flow.ensures
    c.in_ok-follow.ensures.rest c.in_ok-follow.ensures.agenda c.requires.next c.in_ok-framed.ensures.frames c.in_err-note_and_rise.ensures

pub returns : goal.returns
returns c =
    let r = frame_result c.args.self.now c.follow.new.self c.args.notes.now c.note_and_rise.new.notes c.note_low.new.notes c.frame.new.self c.args.next c.in_ok-framed.framed c.request-flow.result c.note_low.result c.request-flow.ensures c.in_ok-follow.ensures.rest c.in_ok-follow.ensures.agenda c.requires.next c.in_ok-framed.ensures.frames c.in_ok-note_and_rise.ensures c.note_low.ensures in
    record {
      ok = r.0;
      cut = r.1;
      less = on_ok c.note_low.result (frame_less c.args.self.now c.follow.new.self c.frame.new.self c.args.next c.in_ok-framed.framed c.in_ok-follow.ensures.rest c.in_ok-follow.ensures.agenda c.in_ok-framed.ensures.less);
    }

pub returns-in_err-follow-clause-cut : goal.returns-in_err-follow-clause-cut
returns-in_err-follow-clause-cut c = cuts_none c.args.self.now c.args.notes.now
