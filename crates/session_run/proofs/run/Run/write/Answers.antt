-- The text was written and dropped, or a front of it was written.
use Rattle.std.proofs.Common.{refl}
use Rattle.session_run.proofs.Running.{text_written, write_failed}
use Rattle.session_run.proofs.run.Run.write.Goals as goal

pub returns-in-Ok-clause-writes : goal.returns-in-Ok-clause-writes
returns-in-Ok-clause-writes g c = text_written c.args.self.now _ _ _ c.in-Ok.ensures.ok c.in-Ok.ensures.empty refl refl refl refl

pub returns-in-Err-clause-writes : goal.returns-in-Err-clause-writes
returns-in-Err-clause-writes g c = write_failed c.args.self.now _ _ _ c.flush.ensures.front
