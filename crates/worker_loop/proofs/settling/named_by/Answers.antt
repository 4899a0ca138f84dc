-- A passage that isn't one note names no connection.
use Rattle.worker_loop.proofs.Closing.{none_named}
use Rattle.worker_loop.proofs.settling.named_by.Goals as goal

pub returns-in_default : goal.returns-in_default
returns-in_default c = none_named c.args.passage c.in_default.not-One
