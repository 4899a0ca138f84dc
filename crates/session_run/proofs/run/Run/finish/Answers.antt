-- After a failed write nothing is written.
use Rattle.session_run.proofs.Running.{finish_none}
use Rattle.session_run.proofs.run.Run.finish.Goals as goal

pub returns-in-WriteFault-clause-finishes : goal.returns-in-WriteFault-clause-finishes
returns-in-WriteFault-clause-finishes g c = finish_none c.args.self c.args.status _ c.in-WriteFault.is
