-- The line is put together and written.
use Rattle.replay_run.proofs.Configuring.{end_lost}
use Rattle.replay_run.proofs.config_end.end_at_config.Goals as goal

pub returns-in-Err-clause-ends : goal.returns-in-Err-clause-ends
returns-in-Err-clause-ends g c = end_lost c.args.end _
