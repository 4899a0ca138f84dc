use Rattle.exchange_core.proofs.Seeing.{next_metered}
use Rattle.exchange_core.proofs.exchanges.Exchanges.metered.Goals as goal

pub returns : goal.returns
returns c = rw (← c.self.view_is) (next_metered c.self.inside c.args.after c.next_above.result c.self.invariant c.next_above.ensures.found c.next_above.ensures.least)
