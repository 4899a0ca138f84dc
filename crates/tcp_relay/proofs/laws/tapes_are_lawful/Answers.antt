use Rattle.tcp_relay.proofs.Tracked.{whole}
use Rattle.tcp_relay.proofs.laws.tapes_are_lawful.Goals as goal

pub returns : goal.returns
returns c = whole
