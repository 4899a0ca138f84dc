-- No worker comes or goes.
use Rattle.mio_accept.proofs.acceptor.Acceptor.hand_on.Given as goal
use Rattle.mio_accept.specs.Acceptors.{workers}
use Rattle.std.proofs.Common.{◌≡◌}

abbrev pub invariant-loop : goal.invariant-loop
invariant-loop g l = workers l.self ≡ workers l.initial.self
