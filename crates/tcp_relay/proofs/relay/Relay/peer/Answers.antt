use Rattle.tcp_relay.proofs.Rested.{shows_peer}
use Rattle.tcp_relay.proofs.relay.Relay.peer.Goals as goal

pub returns : goal.returns
returns c = shows_peer c.args.self.now c.args.conn c.peer.result c.peer.ensures
