-- The summary stands behind the text.
use Rattle.relay_run.proofs.Playing.{play_sum_ends}
use Rattle.relay_run.proofs.play.RelayPlayPlayer.summarize.Goals as goal

pub returns-clause-ok : goal.returns-clause-ok
returns-clause-ok c = play_sum_ends c.args.self.now _ _ _ c.write_relay_summary.ensures.ok
