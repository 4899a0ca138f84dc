use Rattle.exchange_core.proofs.Finding.{no_exchange, no_flow}
use Rattle.exchange_core.proofs.Lent.{Lent, lent_done}
use Rattle.exchange_core.proofs.Seeing.{seen_sound}
use Rattle.exchange_core.proofs.exchanges.Exchanges.framed.Goals as goal
use Rattle.std.proofs.Common.{ap, refl, sym, ◌∙◌}
use Rattle.std.specs.Option.{option_copied_mut}
use Rattle.exchange_core.proofs.Steady.{steady_listed}
use Rattle.exchange_core.specs.Effects.{list_framed}

pub unreachable-requires : goal.unreachable-requires
unreachable-requires c = no_exchange c.self.inside c.args.flow (ap option_copied_mut (sym c.in_default.is) ∙ c.get_mut.ensures.value) (rw (← c.self.view_is) at c.requires.live)

pub unreachable-requires-in_default-touch : goal.unreachable-requires-in_default-touch
unreachable-requires-in_default-touch c = no_flow c.self.inside c.args.flow c.in-Some.exchange.now c.in-Some.ensures.value
    (ap option_copied_mut (sym c.in_default-touch.is) ∙ c.touch.ensures.value) (rw (← c.self.view_is) at c.requires.live)

lends : (c : goal.After-self-2-1) → Lent c.self.inside c.get_mut.follows.lender c.args.flow c.in-Some.exchange.now c.in-Some-touch.flow.now c.list_framed.new.self
lends c = record { kept = c.self.invariant; is = c.in-Some.ensures.value; there = c.in-Some-touch.ensures.value; sound = c.list_framed.ensures.sound; through = c.get_mut.follows.holds _ }

pub invariant_of-self : goal.invariant_of-self
invariant_of-self c = (lent_done (lends c) (list_framed c.args.last) (steady_listed c.args.last) c.list_framed.ensures.framed refl).1

pub returns-clause-framed : goal.returns-clause-framed
returns-clause-framed c = rw (← c.self.view_is) (lent_done (lends c) (list_framed c.args.last) (steady_listed c.args.last) c.list_framed.ensures.framed refl).0

pub returns-clause-sound : goal.returns-clause-sound
returns-clause-sound c = seen_sound _ (invariant_of-self c)
