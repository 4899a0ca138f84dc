use Rattle.tcp_relay.proofs.Rested.{shows_reads}
use Rattle.tcp_relay.proofs.relay.Relay.reads.Goals as goal

pub returns : goal.returns
returns c = shows_reads c.args.self.now c.args.conn c.reads.result c.reads.ensures
