use Rattle.exchange_core.proofs.Advancing.{left_alone, not_there}
use Rattle.exchange_core.proofs.Finding.{flow_found, no_exchange, no_flow}
use Rattle.exchange_core.proofs.Lent.{Lent, lent_done, lent_refused, seen_says}
use Rattle.exchange_core.proofs.Writing.{touched_alone}
use Rattle.exchange_core.proofs.Receiving.{not_received}
use Rattle.exchange_core.proofs.Seeing.{seen_sound}
use Rattle.exchange_core.proofs.Steady.{calm_received, steady_received}
use Rattle.exchange_core.proofs.exchanges.Exchanges.receive.Goals as goal
use Rattle.exchange_core.specs.Effects.{received, received_by}
use Rattle.exchange_core.specs.Exchange.{seen_at, flow_in}
use Rattle.exchange_core.specs.View.{IsKept, exchanges_of}
use Rattle.std.proofs.Common.{ap, refl, subst, sym, ◌∙◌}
use Rattle.std.specs.Option.{option_copied_mut}
use Rattle.std.specs.Prelude.{None, false, length, ◌≡◌}
use Rattle.exchange_core.specs.declared.exchanges.Exchanges.TheInside.{Inside}
use Rattle.std.specs.BTreeMap.{is_at}
use Rattle.std.specs.Map.{lookup}
use Rattle.std.specs.Ordering.{nat_cmp}

-- ---- no exchange was found
not_found : (c : goal.After-self-in_default-2-1) → None ≡ lookup (is_at (nat_cmp c.args.flow.exchange)) c.self.inside.live.entries
not_found c = ap option_copied_mut (sym c.in_default.is) ∙ c.get_mut.ensures.value

pub returns-in_default-clause-answer : goal.returns-in_default-clause-answer
returns-in_default-clause-answer c = rw (← c.self.view_is) (sym (ap (received_by (length c.args.octets.now)) (not_there c.self.inside c.args.flow (not_found c))))

pub returns-in_default-clause-flow : goal.returns-in_default-clause-flow
returns-in_default-clause-flow c = rw (← c.self.view_is) (λ live. absurd (no_exchange c.self.inside c.args.flow (not_found c) live))

pub returns-in_default-clause-same : goal.returns-in_default-clause-same
returns-in_default-clause-same c = rw (← c.self.view_is) (λ other. left_alone c.self.inside c.get_mut.follows.lender-at-none c.get_mut.follows.holds-at-none)

pub returns-in_default-clause-sound : goal.returns-in_default-clause-sound
returns-in_default-clause-sound c = seen_sound _ (subst (λ live. IsKept (record c.self.inside { live = live })) (sym c.get_mut.follows.holds-at-none) c.self.invariant)

-- ---- one was, without the flow
no_such : (c : goal.After-self-in_default-touch-2-1) → None ≡ flow_in c.args.flow.back (seen_at c.self.inside.ticked c.in-Some.exchange.now)
no_such c = ap option_copied_mut (sym c.in_default-touch.is) ∙ c.touch.ensures.value

abbrev untouched : goal.After-self-in_default-touch-2-1 → Inside
untouched c = record c.self.inside { live = c.get_mut.follows.lender (seen_at c.self.inside.ticked c.in-Some.exchange.now) }

alone : (c : goal.After-self-in_default-touch-2-1) → (exchanges_of (untouched c) ≡ exchanges_of c.self.inside) × IsKept (untouched c)
alone c = touched_alone c.self.inside _ c.args.flow c.in-Some.exchange.now _ c.self.invariant c.in-Some.ensures.value (no_such c) refl (c.get_mut.follows.holds (seen_at c.self.inside.ticked c.in-Some.exchange.now))

pub invariant_of-self-in_default-touch : goal.invariant_of-self-in_default-touch
invariant_of-self-in_default-touch c = (alone c).1

pub returns-in_default-touch-clause-answer : goal.returns-in_default-touch-clause-answer
returns-in_default-touch-clause-answer c = rw (← c.self.view_is) (sym (ap (received_by (length c.args.octets.now)) (flow_found c.self.inside c.args.flow c.in-Some.exchange.now None c.in-Some.ensures.value (no_such c))))

pub returns-in_default-touch-clause-flow : goal.returns-in_default-touch-clause-flow
returns-in_default-touch-clause-flow c = rw (← c.self.view_is) (λ live. absurd (no_flow c.self.inside c.args.flow c.in-Some.exchange.now c.in-Some.ensures.value (no_such c) live))

pub returns-in_default-touch-clause-same : goal.returns-in_default-touch-clause-same
returns-in_default-touch-clause-same c = rw (← c.self.view_is) (λ other. (alone c).0)

pub returns-in_default-touch-clause-sound : goal.returns-in_default-touch-clause-sound
returns-in_default-touch-clause-sound c = seen_sound _ (alone c).1

-- ---- the flow was found
pub receive-requires : goal.receive-requires
receive-requires c = seen_says (λ f. f.message.ended ≡ false) c.self.inside c.args.flow c.in-Some.ensures.value c.in-Some-touch.ensures.value (rw (← c.self.view_is) at c.requires.goes_on)

lends : (c : goal.After-self-2-1) → Lent c.self.inside c.get_mut.follows.lender c.args.flow c.in-Some.exchange.now c.in-Some-touch.flow.now c.receive.new.self
lends c = record { kept = c.self.invariant; is = c.in-Some.ensures.value; there = c.in-Some-touch.ensures.value; sound = c.receive.ensures.sound; through = c.get_mut.follows.holds _ }

pub invariant_of-self-2 : goal.invariant_of-self-2
invariant_of-self-2 c = (lent_done (lends c) (received c.args.octets.now) (steady_received c.args.octets.now) c.receive.ensures.flow (calm_received c.args.octets.now c.in-Some-touch.flow.now)).1

pub returns-clause-answer : goal.returns-clause-answer
returns-clause-answer c = rw (← c.self.view_is) (c.receive.ensures.answer ∙ sym (ap (received_by (length c.args.octets.now)) (flow_found c.self.inside c.args.flow _ _ (lends c).is (lends c).there)))

pub returns-clause-flow : goal.returns-clause-flow
returns-clause-flow c = rw (← c.self.view_is) (λ live. (lent_done (lends c) (received c.args.octets.now) (steady_received c.args.octets.now) c.receive.ensures.flow (calm_received c.args.octets.now c.in-Some-touch.flow.now)).0)

pub returns-clause-same : goal.returns-clause-same
returns-clause-same c = rw (← c.self.view_is) (λ other. (lent_refused (lends c) (c.receive.ensures.flow ∙ not_received c.args.octets.now c.in-Some-touch.flow.now c.receive.result c.receive.ensures.answer other)).0)

pub returns-clause-sound : goal.returns-clause-sound
returns-clause-sound c = seen_sound _ (invariant_of-self-2 c)
