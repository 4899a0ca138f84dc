use Rattle.exchange_core.proofs.Finding.{no_exchange, no_flow}
use Rattle.exchange_core.proofs.Lent.{Lent, lent_done, seen_says}
use Rattle.exchange_core.proofs.Seeing.{seen_sound}
use Rattle.exchange_core.proofs.exchanges.Exchanges.head.Goals as goal
use Rattle.std.proofs.Common.{ap, sym, ◌∙◌}
use Rattle.std.specs.Option.{option_copied_mut}
use Rattle.std.specs.Prelude.{false, true, ◌≡◌}
use Rattle.exchange_core.proofs.Steady.{calm_headed, steady_headed}
use Rattle.exchange_core.specs.Effects.{headed}
use Rattle.exchange_core.specs.Flow.{held_by}

pub unreachable-requires : goal.unreachable-requires
unreachable-requires c = no_exchange c.self.inside c.args.flow (ap option_copied_mut (sym c.in_default.is) ∙ c.get_mut.ensures.value) (rw (← c.self.view_is) at c.requires.live)

pub unreachable-requires-in_default-touch : goal.unreachable-requires-in_default-touch
unreachable-requires-in_default-touch c = no_flow c.self.inside c.args.flow c.in-Some.exchange.now c.in-Some.ensures.value
    (ap option_copied_mut (sym c.in_default-touch.is) ∙ c.touch.ensures.value) (rw (← c.self.view_is) at c.requires.live)

pub head-requires-clause-goes_on : goal.head-requires-clause-goes_on
head-requires-clause-goes_on c = seen_says (λ f. f.message.ended ≡ false) c.self.inside c.args.flow c.in-Some.ensures.value c.in-Some-touch.ensures.value (rw (← c.self.view_is) at c.requires.goes_on)

pub head-requires-clause-alone : goal.head-requires-clause-alone
head-requires-clause-alone c = seen_says (λ f. c.args.last ≡ true → held_by f ≡ 0) c.self.inside c.args.flow c.in-Some.ensures.value c.in-Some-touch.ensures.value (rw (← c.self.view_is) at c.requires.alone)

lends : (c : goal.After-self-2-1) → Lent c.self.inside c.get_mut.follows.lender c.args.flow c.in-Some.exchange.now c.in-Some-touch.flow.now c.head.new.self
lends c = record { kept = c.self.invariant; is = c.in-Some.ensures.value; there = c.in-Some-touch.ensures.value; sound = c.head.ensures.sound; through = c.get_mut.follows.holds _ }

pub invariant_of-self : goal.invariant_of-self
invariant_of-self c = (lent_done (lends c) (headed c.args.fields c.args.last) (steady_headed c.args.fields c.args.last) c.head.ensures.headed (calm_headed c.args.fields c.args.last c.in-Some-touch.flow.now)).1

pub returns-clause-ok : goal.returns-clause-ok
returns-clause-ok c = rw (← c.self.view_is) (lent_done (lends c) (headed c.args.fields c.args.last) (steady_headed c.args.fields c.args.last) c.head.ensures.headed (calm_headed c.args.fields c.args.last c.in-Some-touch.flow.now)).0

pub returns-clause-sound : goal.returns-clause-sound
returns-clause-sound c = seen_sound _ (invariant_of-self c)
