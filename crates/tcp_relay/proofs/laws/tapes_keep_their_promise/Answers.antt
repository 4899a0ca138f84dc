use Rattle.tcp_relay.proofs.Promises.{keeps_promise}
use Rattle.tcp_relay.proofs.laws.tapes_keep_their_promise.Goals as goal

pub returns : goal.returns
returns c = keeps_promise
