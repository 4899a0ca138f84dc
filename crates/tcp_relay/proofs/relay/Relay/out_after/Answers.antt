use Rattle.tcp_relay.proofs.Rested.{shows_out}
use Rattle.tcp_relay.proofs.relay.Relay.out_after.Goals as goal

pub returns : goal.returns
returns c = shows_out c.args.self.now c.args.after c.out_after.result c.out_after.ensures
