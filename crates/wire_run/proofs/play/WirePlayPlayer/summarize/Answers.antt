-- The summary stands behind the text.
use Rattle.wire_run.proofs.Playing.{play_summed}
use Rattle.wire_run.proofs.play.WirePlayPlayer.summarize.Goals as goal

pub returns-clause-ok : goal.returns-clause-ok
returns-clause-ok c = play_summed c.args.self.now _ _ _ c.write_wire_summary.ensures.ok
