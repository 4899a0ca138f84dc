use Rattle.exchange_core.proofs.Finding.{no_exchange, no_flow}
use Rattle.exchange_core.proofs.Lent.{Lent, left, lent_done, lent_refused, says_seen, seen_says}
use Rattle.exchange_core.proofs.Outcomes.{either, on_err, on_ok}
use Rattle.exchange_core.proofs.Seeing.{seen_sound}
use Rattle.exchange_core.proofs.exchanges.Exchanges.arrive.Goals as goal
use Rattle.std.proofs.Common.{ap, refl, sym, ◌∙◌}
use Rattle.std.specs.Option.{option_copied_mut}
use Rattle.std.specs.Prelude.{false, ◌≡◌}
use Rattle.exchange_core.proofs.Steady.{steady_arrived}
use Rattle.exchange_core.specs.Effects.{arrived}
use Rattle.std.specs.Prelude.{IsOk, length, ◌+◌, ◌≤◌}
use Rattle.exchange_core.specs.Changes.{ChangesFlow}
use Rattle.exchange_core.specs.declared.exchanges.Exchanges.TheInside.{Inside}
use Rattle.exchange_core.specs.View.{exchanges_of, IsKept}

pub unreachable-requires : goal.unreachable-requires
unreachable-requires c = no_exchange c.self.inside c.args.flow (ap option_copied_mut (sym c.in_default.is) ∙ c.get_mut.ensures.value) (rw (← c.self.view_is) at c.requires.live)

pub unreachable-requires-in_default-touch : goal.unreachable-requires-in_default-touch
unreachable-requires-in_default-touch c = no_flow c.self.inside c.args.flow c.in-Some.exchange.now c.in-Some.ensures.value
    (ap option_copied_mut (sym c.in_default-touch.is) ∙ c.touch.ensures.value) (rw (← c.self.view_is) at c.requires.live)

pub arrive-requires : goal.arrive-requires
arrive-requires c = seen_says (λ f. f.message.ended ≡ false) c.self.inside c.args.flow c.in-Some.ensures.value c.in-Some-touch.ensures.value (rw (← c.self.view_is) at c.requires.goes_on)

lends : (c : goal.After-self-2-1) → Lent c.self.inside c.get_mut.follows.lender c.args.flow c.in-Some.exchange.now c.in-Some-touch.flow.now c.arrive.new.self
lends c = record { kept = c.self.invariant; is = c.in-Some.ensures.value; there = c.in-Some-touch.ensures.value; sound = c.arrive.ensures.sound; through = c.get_mut.follows.holds _ }

abbrev after : goal.After-self-2-1 → Inside
after c = left c.self.inside c.get_mut.follows.lender c.args.flow c.in-Some.exchange.now c.arrive.new.self

done : (c : goal.After-self-2-1) → c.arrive.new.self ≡ arrived c.args.octets.now c.in-Some-touch.flow.now → ChangesFlow c.args.flow (arrived c.args.octets.now) (exchanges_of c.self.inside) (exchanges_of (after c)) × IsKept (after c)
done c is = lent_done (lends c) (arrived c.args.octets.now) (steady_arrived c.args.octets.now) is refl

pub invariant_of-self : goal.invariant_of-self
invariant_of-self c = either _ _ _ c.arrive.result c.arrive.ensures.ok c.arrive.ensures.err (λ is. (done c is).1) (λ is. (lent_refused (lends c) is).1)

pub returns-clause-ok : goal.returns-clause-ok
returns-clause-ok c = rw (← c.self.view_is) (on_ok _ _ c.arrive.result c.arrive.ensures.ok (λ is. (done c is).0))

pub returns-clause-sound : goal.returns-clause-sound
returns-clause-sound c = seen_sound _ (invariant_of-self c)

pub returns-clause-covered : goal.returns-clause-covered
returns-clause-covered c = rw (← c.self.view_is) (says_seen (λ f. length f.recv + length c.args.octets.now ≤ f.window → IsOk c.arrive.result) c.self.inside c.args.flow (lends c).is (lends c).there c.arrive.ensures.covered)

pub returns-clause-err : goal.returns-clause-err
returns-clause-err c = rw (← c.self.view_is) (on_err _ _ c.arrive.result c.arrive.ensures.err (λ is. (lent_refused (lends c) is).0))
