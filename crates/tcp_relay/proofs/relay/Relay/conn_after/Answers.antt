use Rattle.tcp_relay.proofs.Rested.{shows_conn}
use Rattle.tcp_relay.proofs.relay.Relay.conn_after.Goals as goal

pub returns : goal.returns
returns c = shows_conn c.args.self.now c.args.after c.conn_after.result c.conn_after.ensures
