use Rattle.tcp_relay.proofs.Rested.{shows_front}
use Rattle.tcp_relay.proofs.relay.Relay.out_front.Goals as goal

pub returns : goal.returns
returns c = shows_front c.args.self.now c.args.conn c.front.result.now c.front.ensures
