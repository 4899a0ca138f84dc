use Rattle.std.proofs.Common.{refl}
use Rattle.tcp_relay.proofs.Rested.{shows_closing}
use Rattle.tcp_relay.proofs.relay.Relay.closing.Goals as goal

pub returns : goal.returns
returns c = shows_closing c.args.self.now c.args.conn c.is_open.result _ c.is_open.ensures refl
