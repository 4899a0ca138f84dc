-- The text is written, or a front of it.
use Rattle.session_run.proofs.Running.{finish_failed, finished}
use Rattle.session_run.proofs.run.Run.write_last.Goals as goal

pub returns-in-Ok-clause-finishes : goal.returns-in-Ok-clause-finishes
returns-in-Ok-clause-finishes g c = finished c.args.self.now c.args.status c.add_last-status.result _ _ _ c.requires c.add_last-status.ensures.adds c.in-Ok.ensures.ok

pub returns-in-Err-clause-finishes : goal.returns-in-Err-clause-finishes
returns-in-Err-clause-finishes g c = finish_failed c.args.self.now c.args.status c.add_last-status.result _ _ _ c.requires c.add_last-status.ensures.adds c.flush.ensures.front
