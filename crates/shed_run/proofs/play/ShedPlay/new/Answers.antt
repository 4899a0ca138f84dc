-- Nothing was read, nothing has arrived, and the session stands for the empty tape.
use Rattle.shed_run.proofs.Lining.{play_begins}
use Rattle.shed_run.proofs.play.ShedPlay.new.Goals as goal
use Rattle.std.proofs.Common.{refl}

pub returns : goal.returns
returns c = play_begins _ c.args.config c.in-Ok-new.ensures c.in-Ok.ensures.new refl
