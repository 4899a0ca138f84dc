-- No worker comes or goes, and the turn stays.
use Rattle.mio_accept.proofs.acceptor.Acceptor.look.Given as goal
use Rattle.mio_accept.specs.Acceptors.{turn_of, workers}
use Rattle.std.proofs.Common.{◌≡◌}

abbrev pub invariant-loop-place : goal.invariant-loop-place
invariant-loop-place g l = (workers l.self ≡ workers l.initial.self) × (turn_of l.self ≡ turn_of l.initial.self)
