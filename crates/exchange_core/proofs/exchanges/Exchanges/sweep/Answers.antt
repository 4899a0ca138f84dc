use Rattle.exchange_core.proofs.Keeping.{swept_kept}
use Rattle.exchange_core.proofs.Seeing.{seen_sound}
use Rattle.exchange_core.proofs.exchanges.Exchanges.sweep.Goals as goal
use Rattle.exchange_core.specs.Exchanges.{exchange_at}
use Rattle.std.proofs.Common.{arith, refl}

pub invariant_of-self : goal.invariant_of-self
invariant_of-self c = (swept_kept c.self.inside (record c.self.inside { doomed = c.pop_front.new.self }) c.pop_front.result c.self.invariant c.pop_front.ensures.items
    (omega (arith, c.pop_front.ensures.len)) c.pop_front.ensures.capacity refl refl refl refl refl refl)

pub returns-clause-sweeps : goal.returns-clause-sweeps
unfolding exchange_at
returns-clause-sweeps c = rw (← c.self.view_is) (record { doomed = c.pop_front.ensures.items; live = λ x. refl; last = refl; time = refl })

pub returns-clause-sound : goal.returns-clause-sound
returns-clause-sound c = seen_sound _ (invariant_of-self c)
