-- What is seen of connections over sockets.
use Rattle.mio_edge.specs.Rolls.{roll_seen}
use Rattle.mio_edge.specs.declared.taps.SocketTaps.{SocketTaps}
use Rattle.std.specs.Prelude.{ℕ}
use Rattle.worker_ports.specs.Wires.{Seen}

-- whatever its runtime and its inlet are, with the types that their traits have
module _ {R I X Y : Type 0} where
  abbrev pub seen_of : SocketTaps R I X Y → Seen
  seen_of t = roll_seen t.roll

  abbrev pub faults_of : SocketTaps R I X Y → ℕ
  faults_of t = t.faults
