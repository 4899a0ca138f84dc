use Rattle.replay_run.proofs.OneSession.{one_session}
use Rattle.replay_run.proofs.text.one_session.Goals as goal

pub returns : goal.returns
returns c = one_session
