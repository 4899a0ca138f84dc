use Rattle.exchange_core.proofs.Finding.{flow_there, no_exchange}
use Rattle.exchange_core.proofs.Lent.{LentWhole, aimed_is, left_whole, map_seen, says_aimed, whole_done, whole_refused}
use Rattle.exchange_core.proofs.Steady.{steady_stepped}
use Rattle.exchange_core.proofs.Writing.{is_marked, mark_room, open_there}
use Rattle.exchange_core.specs.Exchange.{flow_changed}
use Rattle.exchange_core.specs.View.{IsKept}
use Rattle.exchange_core.specs.declared.exchanges.Exchanges.TheInside.{Inside}
use Rattle.std.specs.Prelude.{◌≡◌}
use Rattle.exchange_core.proofs.Outcomes.{either, if_ok, on_err, on_ok}
use Rattle.exchange_core.proofs.Seeing.{seen_sound}
use Rattle.exchange_core.proofs.exchanges.Exchanges.step.Goals as goal
use Rattle.exchange_core.specs.Changes.{ChangesFlow}
use Rattle.exchange_core.specs.Exchange.{goes_to, seen_at}
use Rattle.exchange_core.specs.Flow.{Flow}
use Rattle.exchange_core.specs.Moves.{has_room_ahead, next_step, stepped}
use Rattle.exchange_core.specs.View.{exchanges_of}
use Rattle.std.proofs.Common.{ap, sym, ◌∙◌}
use Rattle.std.specs.Option.{option_copied_mut}
use Rattle.std.specs.Prelude.{IsOk, IsTrue}

pub unreachable-requires : goal.unreachable-requires
unreachable-requires c = no_exchange c.self.inside c.args.flow (ap option_copied_mut (sym c.in_default.is) ∙ c.get_mut.ensures.value) (rw (← c.self.view_is) at c.requires.live)

pub step-step-requires-clause-there : goal.step-step-requires-clause-there
step-step-requires-clause-there c = sym (flow_there c.self.inside c.args.flow c.in-Some.exchange.now c.in-Some.ensures.value) ∙ (rw (← c.self.view_is) at c.requires.live)

pub step-step-requires-clause-open : goal.step-step-requires-clause-open
step-step-requires-clause-open c = open_there c.self.inside c.args.flow c.args.gates.now c.in-Some.exchange.now c.self.invariant c.in-Some.ensures.value c.requires.open

pub mark-requires : goal.mark-requires
mark-requires c = λ there none. mark_room c.self.inside c.args.flow c.in-Some.exchange.now c.step-step.new.self c.self.invariant c.in-Some.ensures.value none

lends : (c : goal.After-mark) → LentWhole c.self.inside c.get_mut.follows.lender c.mark.new.self c.args.flow c.in-Some.exchange.now c.step-step.new.self
lends c = record {
  kept = c.self.invariant;
  is = c.in-Some.ensures.value;
  sound = c.step-step.ensures.sound;
  through = c.get_mut.follows.holds c.step-step.new.self;
  marks = is_marked c.self.inside c.args.flow c.in-Some.exchange.now c.step-step.new.self c.self.invariant c.in-Some.ensures.value c.mark.new.self _ c.is_metered-is_metered.ensures c.mark.ensures.members c.mark.ensures.len c.mark.ensures.room;
}

abbrev after : goal.After-mark → Inside
after c = left_whole c.self.inside c.get_mut.follows.lender c.mark.new.self c.step-step.new.self

abbrev change : goal.After-mark → Flow → Flow
change c = stepped c.args.gates.now (goes_to c.args.flow.back c.in-Some.exchange.now)

abbrev IsDone : goal.After-mark → Type 0
IsDone c = c.step-step.new.self ≡ flow_changed (change c) c.args.flow.back (seen_at c.self.inside.ticked c.in-Some.exchange.now)

done : (c : goal.After-mark) → IsDone c → ChangesFlow c.args.flow (change c) (exchanges_of c.self.inside) (exchanges_of (after c)) × IsKept (after c)
done c = whole_done (lends c) (change c) (steady_stepped c.args.gates.now (goes_to c.args.flow.back c.in-Some.exchange.now))

pub invariant_of-self : goal.invariant_of-self
invariant_of-self c = either _ _ _ c.step-step.result c.step-step.ensures.exchange c.step-step.ensures.err (λ is. (done c is).1) (λ is. (whole_refused (lends c) is).1)

pub returns-clause-step : goal.returns-clause-step
returns-clause-step c = rw (← c.self.view_is) (if_ok _ _ _ c.step-step.result c.step-step.ensures.exchange c.step-step.ensures.step (λ step is e. e ∙ map_seen c.self.inside c.args.flow c.in-Some.ensures.value (next_step c.args.gates.now)))

pub returns-clause-flow : goal.returns-clause-flow
returns-clause-flow c = rw (← c.self.view_is) (on_ok _ _ c.step-step.result c.step-step.ensures.exchange
    (λ is. rw (aimed_is c.self.inside c.args.flow c.in-Some.ensures.value) (done c is).0))

pub returns-clause-covered : goal.returns-clause-covered
returns-clause-covered c = rw (← c.self.view_is) (says_aimed c.self.inside c.args.flow c.in-Some.ensures.value (λ to f. IsTrue (has_room_ahead c.args.gates.now to f) → IsOk c.step-step.result) c.step-step.ensures.covered)

pub returns-clause-sound : goal.returns-clause-sound
returns-clause-sound c = seen_sound _ (invariant_of-self c)

pub returns-clause-err : goal.returns-clause-err
returns-clause-err c = rw (← c.self.view_is) (on_err _ _ c.step-step.result c.step-step.ensures.err (λ is. (whole_refused (lends c) is).0))
