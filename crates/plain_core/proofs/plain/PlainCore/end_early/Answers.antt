-- The doom of a stream whose pair ended.
use Rattle.std.proofs.Common.{refl}
use Rattle.plain_core.proofs.StepEnd.{early_result, on_ok}
use Rattle.plain_core.proofs.plain.PlainCore.end_early.Goals as goal

pub returns : goal.returns
returns c =
    let r = early_result c.args.self.now c.give_up-gives_up.new.self (record c.give_up-gives_up.new.self { agenda = c.pop.new.self }) _ _ c.args.exchange c.give_up-gives_up.result c.note_doom.result c.give_up-gives_up.ensures.rest refl c.pop.ensures c.requires.top c.give_up-gives_up.ensures.flows c.give_up-gives_up.ensures.less c.note_doom.ensures in
    record {
      ok = r.0;
      cut = r.1;
      less = on_ok c.note_doom.result r.2;
    }
