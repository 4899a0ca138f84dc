use Rattle.exchange_core.proofs.Seeing.{seen_sound}
use Rattle.exchange_core.proofs.Starting.{kept_ticked, ticks}
use Rattle.exchange_core.proofs.exchanges.Exchanges.tick.Goals as goal

pub invariant_of-self : goal.invariant_of-self
invariant_of-self c = kept_ticked c.ticks_add_up.ensures c.self.inside c.args.now c.self.invariant (rw (← c.self.view_is) at c.requires)

pub returns-clause-ticks : goal.returns-clause-ticks
returns-clause-ticks c = rw (← c.self.view_is) (ticks c.ticks_add_up.ensures c.self.inside c.args.now c.self.invariant (rw (← c.self.view_is) at c.requires))

pub returns-clause-sound : goal.returns-clause-sound
returns-clause-sound c = seen_sound _ (invariant_of-self c)
