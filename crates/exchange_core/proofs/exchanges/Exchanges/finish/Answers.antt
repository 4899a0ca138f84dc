use Rattle.exchange_core.proofs.Finding.{no_exchange, no_flow}
use Rattle.exchange_core.proofs.Lent.{Lent, lent_done, seen_says}
use Rattle.exchange_core.proofs.Seeing.{seen_sound}
use Rattle.exchange_core.proofs.exchanges.Exchanges.finish.Goals as goal
use Rattle.std.proofs.Common.{ap, refl, sym, ◌∙◌}
use Rattle.std.specs.Option.{option_copied_mut}
use Rattle.std.specs.Prelude.{false, ◌≡◌}
use Rattle.exchange_core.proofs.Steady.{steady_finished}
use Rattle.exchange_core.specs.Effects.{finished}

pub unreachable-requires : goal.unreachable-requires
unreachable-requires c = no_exchange c.self.inside c.args.flow (ap option_copied_mut (sym c.in_default.is) ∙ c.get_mut.ensures.value) (rw (← c.self.view_is) at c.requires.live)

pub unreachable-requires-in_default-touch : goal.unreachable-requires-in_default-touch
unreachable-requires-in_default-touch c = no_flow c.self.inside c.args.flow c.in-Some.exchange.now c.in-Some.ensures.value
    (ap option_copied_mut (sym c.in_default-touch.is) ∙ c.touch.ensures.value) (rw (← c.self.view_is) at c.requires.live)

pub finish-requires : goal.finish-requires
finish-requires c = seen_says (λ f. f.message.ended ≡ false) c.self.inside c.args.flow c.in-Some.ensures.value c.in-Some-touch.ensures.value (rw (← c.self.view_is) at c.requires.goes_on)

lends : (c : goal.After-self-2-1) → Lent c.self.inside c.get_mut.follows.lender c.args.flow c.in-Some.exchange.now c.in-Some-touch.flow.now c.finish.new.self
lends c = record { kept = c.self.invariant; is = c.in-Some.ensures.value; there = c.in-Some-touch.ensures.value; sound = c.finish.ensures.sound; through = c.get_mut.follows.holds _ }

pub invariant_of-self : goal.invariant_of-self
invariant_of-self c = (lent_done (lends c) (finished c.args.trailers) (steady_finished c.args.trailers) c.finish.ensures.finished refl).1

pub returns-clause-ok : goal.returns-clause-ok
returns-clause-ok c = rw (← c.self.view_is) (lent_done (lends c) (finished c.args.trailers) (steady_finished c.args.trailers) c.finish.ensures.finished refl).0

pub returns-clause-sound : goal.returns-clause-sound
returns-clause-sound c = seen_sound _ (invariant_of-self c)
