-- The stream is opened.
use Rattle.replay_run.proofs.Drilling.{yields_open}
use Rattle.replay_run.proofs.drill.Drill.open.Goals as goal

pub returns : goal.returns
returns c = yields_open c.args.self.now c.args.at c.stream_at.result _ c.requires.placed c.stream_at.ensures c.after_open-self.ensures
