-- The summary stands behind the text.
use Rattle.shed_run.proofs.Lining.{play_summed}
use Rattle.shed_run.proofs.play.ShedPlayPlayer.summarize.Goals as goal

pub returns-clause-ok : goal.returns-clause-ok
returns-clause-ok c = play_summed c.args.self.now _ _ _ c.summarize.ensures.ok
