-- Nothing is read, and the tape is empty.
use Rattle.replay_run.proofs.Playing.{play_begun}
use Rattle.replay_run.proofs.play.Play.new.Goals as goal

pub returns : goal.returns
returns c = play_begun _ _ c.plain.ensures c.in_ok-new.ensures c.new-2.ensures
