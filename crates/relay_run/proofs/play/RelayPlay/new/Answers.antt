-- Nothing is read, and the tape is empty.
use Rattle.std.proofs.Common.{ap, length}
use Rattle.relay_run.proofs.Playing.{play_begun}
use Rattle.relay_run.proofs.play.RelayPlay.new.Goals as goal

pub returns : goal.returns
returns c = play_begun c.args.config.now _ _ _ c.in_ok-names.ensures c.known.ensures (ap length c.as_slice-resources.ensures.rows) c.new.ensures c.new-2.ensures c.new-3.ensures
