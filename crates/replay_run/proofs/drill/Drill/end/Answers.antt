-- The stream ends.
use Rattle.replay_run.proofs.Drilling.{yields_end}
use Rattle.replay_run.proofs.drill.Drill.end.Goals as goal

pub returns : goal.returns
returns c = yields_end c.args.self.now c.args.at c.stream_at.result _ c.requires.placed c.stream_at.ensures c.after_end-self.ensures
