-- What is seen of a live relay.
use Rattle.std.specs.Prelude.{List, Option, ℕ}
use Rattle.tcp_relay.specs.declared.relay.Relay.{Relay}
use Rattle.worker_ports.specs.Wires.{Seen}

-- the relay, its connections, and what its journal contains, where that is told
pub record Live : Type 0 where
  pub relay : Relay
  pub seen : Seen
  pub text : Option (List ℕ)

abbrev pub live_of : Relay → Seen → Option (List ℕ) → Live
live_of relay seen text = record { relay = relay; seen = seen; text = text }
