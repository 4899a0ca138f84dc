use Rattle.tcp_relay.proofs.Given.{as_given}
use Rattle.tcp_relay.proofs.laws.tapes_are_as_given.Goals as goal

pub returns : goal.returns
returns c = as_given
