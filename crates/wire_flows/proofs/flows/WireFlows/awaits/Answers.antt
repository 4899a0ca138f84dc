use Rattle.exchange_core.specs.Exchanges.{flow_at}
use Rattle.std.proofs.Common.{sym, ◌∙◌}
use Rattle.wire_flows.proofs.Awaiting.{body_awaited, head_awaited}
use Rattle.wire_flows.proofs.flows.WireFlows.awaits.Goals as goal

pub returns-clause-head : goal.returns-clause-head
returns-clause-head c = rw (← c.self.view_is) (λ is. head_awaited (flow_at c.self.inside.exchanges c.args.flow) (sym c.awaits.ensures ∙ is))

pub returns-clause-body : goal.returns-clause-body
returns-clause-body c = rw (← c.self.view_is) (λ is. body_awaited (flow_at c.self.inside.exchanges c.args.flow) (sym c.awaits.ensures ∙ is))
