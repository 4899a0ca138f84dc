-- An event is dispatched.
use Rattle.replay_run.proofs.Playing.{no_notes}
use Rattle.replay_run.proofs.drill_run.count_event.Goals as goal

pub dispatch-requires : goal.dispatch-requires
dispatch-requires c = λ well. no_notes _ _ _ c.clear.ensures c.requires
