use Rattle.exchange_core.proofs.Finding.{has_there, live_of, seen_flow}
use Rattle.exchange_core.proofs.exchanges.Exchanges.flow.Goals as goal

pub exchange-requires : goal.exchange-requires
exchange-requires c = live_of _ c.args.flow c.requires

pub flow-requires : goal.flow-requires
flow-requires c = has_there _ c.args.flow c.exchange.ensures.seen.now c.exchange.result.now c.exchange.ensures.seen.same c.requires

pub returns : goal.returns
returns c = record { now = c.exchange.ensures.seen.now; same = seen_flow _ c.args.flow c.exchange.ensures.seen.now c.exchange.result.now c.exchange.ensures.seen.same c.flow.result.now c.flow.ensures }
