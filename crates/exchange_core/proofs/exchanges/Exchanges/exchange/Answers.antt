use Rattle.exchange_core.proofs.Finding.{exchange_found, not_live}
use Rattle.exchange_core.proofs.Seeing.{seen_sound}
use Rattle.exchange_core.proofs.exchanges.Exchanges.exchange.Goals as goal
use Rattle.std.specs.Prelude.{Some}

pub unreachable-requires : goal.unreachable-requires
unreachable-requires c = not_live c.self.inside c.args.exchange c.in_default.ensures.value (rw (← c.self.view_is) at c.requires)

pub returns-clause-seen : goal.returns-clause-seen
returns-clause-seen c = rw (← c.self.view_is) (record { now = c.self.inside.ticked; same = exchange_found c.self.inside c.args.exchange (Some c.in-Some.found.now) c.in-Some.ensures.value })

pub returns-clause-sound : goal.returns-clause-sound
returns-clause-sound c = rw (← c.self.view_is) (seen_sound c.self.inside c.self.invariant)
