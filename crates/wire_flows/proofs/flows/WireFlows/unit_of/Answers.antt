use Rattle.exchange_core.specs.Exchange.{flow_in}
use Rattle.exchange_core.specs.Exchanges.{exchange_at, flow_at}
use Rattle.wire_flows.proofs.Awaiting.{found_in, there_of}
use Rattle.wire_flows.proofs.flows.WireFlows.unit_of.Goals as goal

pub returns-clause-there : goal.returns-clause-there
returns-clause-there c = rw (← c.self.view_is) (λ some. there_of _ (flow_at c.self.inside.exchanges c.args.flow) c.unit_of.result c.unit_of.ensures.unit some)

pub returns-clause-live : goal.returns-clause-live
returns-clause-live c = rw (← c.self.view_is) (λ some. found_in (flow_in c.args.flow.back) (exchange_at c.self.inside.exchanges c.args.flow.exchange)
    (there_of _ (flow_at c.self.inside.exchanges c.args.flow) c.unit_of.result c.unit_of.ensures.unit some))
