-- The summary stands behind the text.
use Rattle.replay_run.proofs.Playing.{play_sum_ends}
use Rattle.replay_run.proofs.play.PlayPlayer.summarize.Goals as goal

pub returns-clause-ok : goal.returns-clause-ok
returns-clause-ok c = play_sum_ends c.args.self.now _ _ _ c.write_summary.ensures.ok
