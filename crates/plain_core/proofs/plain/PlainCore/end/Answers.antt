-- The doom of a stream that ended.
use Rattle.plain_core.proofs.StepEnd.{end_result, on_ok}
use Rattle.plain_core.proofs.plain.PlainCore.end.Goals as goal

pub returns : goal.returns
returns c =
    let r = end_result c.args.self.now c.give_up-gives_up.new.self c.end_pair.new.self _ _ c.args.exchange c.give_up-gives_up.result c.note_doom.result c.give_up-gives_up.ensures.rest c.end_pair.ensures.rest c.in_ok-end_pair.ensures.agenda c.requires.top c.give_up-gives_up.ensures.flows c.give_up-gives_up.ensures.less c.note_doom.ensures in
    record {
      ok = r.0;
      cut = r.1;
      less = on_ok c.note_doom.result r.2;
    }
