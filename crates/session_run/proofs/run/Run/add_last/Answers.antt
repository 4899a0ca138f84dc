-- The text tells how the session ended.
use Rattle.session_run.proofs.Running.{ends_added, ends_lost, text_back}
use Rattle.session_run.proofs.run.Run.add_last.Goals as goal
use Rattle.std.proofs.Common.{◌∙◌}

pub returns-in-Ok-clause-adds : goal.returns-in-Ok-clause-adds
returns-in-Ok-clause-adds g c = ends_added c.args.self.now c.args.status _ c.in-Ok.ensures.ok

pub returns-in-Err-clause-adds : goal.returns-in-Err-clause-adds
returns-in-Err-clause-adds g c = ends_lost c.args.self.now c.args.status c.truncate.new.self
    (c.truncate.ensures ∙ text_back _ _ _ c.in-Err.ensures.err c.len-whole.ensures)
