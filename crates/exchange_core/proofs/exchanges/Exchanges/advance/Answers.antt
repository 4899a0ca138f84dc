use Rattle.exchange_core.proofs.Advancing.{absent_changed, absent_flow, left_alone, none_of, not_there, open_if_there, same_there}
use Rattle.exchange_core.proofs.Finding.{flow_there, no_exchange}
use Rattle.exchange_core.proofs.Lent.{LentWhole, aimed_is, left_whole, map_seen, says_aimed, seen_is, whole_done, whole_refused, whole_seen}
use Rattle.exchange_core.proofs.Steady.{steady_stepped}
use Rattle.exchange_core.proofs.Writing.{is_marked, mark_room}
use Rattle.exchange_core.proofs.Outcomes.{either, if_ok, on_err, on_ok}
use Rattle.exchange_core.proofs.Seeing.{seen_sound}
use Rattle.exchange_core.proofs.exchanges.Exchanges.advance.Goals as goal
use Rattle.exchange_core.specs.Changes.{ChangesFlow}
use Rattle.exchange_core.specs.Exchange.{flow_changed, flow_in, goes_to, seen_at}
use Rattle.exchange_core.specs.Exchanges.{flow_at, target_of}
use Rattle.exchange_core.specs.Flow.{Flow}
use Rattle.exchange_core.specs.Moves.{has_room_ahead, next_step, stepped}
use Rattle.exchange_core.specs.Units.{next_unit}
use Rattle.exchange_core.specs.View.{IsKept, exchanges_of}
use Rattle.exchange_core.specs.declared.exchanges.Exchanges.TheInside.{Inside}
use Rattle.exchange_core.specs.declared.step.Advance.{Advance}
use Rattle.std.proofs.Common.{ap, subst, sym, w64, ◌∙◌}
use Rattle.std.proofs.lemmas.Bool.{false≢true}
use Rattle.std.proofs.lemmas.Int.{to_z-of_z}
use Rattle.std.specs.BTreeMap.{is_at}
use Rattle.std.specs.Map.{lookup}
use Rattle.std.specs.Option.{option_copied_mut}
use Rattle.std.specs.Ordering.{nat_cmp}
use Rattle.std.specs.Prelude.{IsOk, IsTrue, None, option_map, ◌≡◌}
use mir.Val.{of_z, to_z}

-- ---- no exchange was found
not_found : (c : goal.After-self-in_default-2-1) → None ≡ lookup (is_at (nat_cmp c.args.flow.exchange)) c.self.inside.live.entries
not_found c = ap option_copied_mut (sym c.in_default.is) ∙ c.get_mut.ensures.value

pub returns-in_default-clause-live : goal.returns-in_default-clause-live
returns-in_default-clause-live c = rw (← c.self.view_is) (λ none. absurd (false≢true none), λ live. absurd (no_exchange c.self.inside c.args.flow (not_found c) live))

pub returns-in_default-clause-step : goal.returns-in_default-clause-step
returns-in_default-clause-step c = rw (← c.self.view_is) (sym (ap (option_map (next_step c.args.gates.now (target_of (exchanges_of c.self.inside) c.args.flow))) (not_there c.self.inside c.args.flow (not_found c))))

pub returns-in_default-clause-unit : goal.returns-in_default-clause-unit
returns-in_default-clause-unit c = sym (ap (λ e. option_map (next_unit c.args.room c.args.frame) (flow_at e c.args.flow)) (left_alone c.self.inside c.get_mut.follows.lender-at-none c.get_mut.follows.holds-at-none)
    ∙ ap (option_map (next_unit c.args.room c.args.frame)) (not_there c.self.inside c.args.flow (not_found c)))

pub returns-in_default-clause-flow : goal.returns-in_default-clause-flow
returns-in_default-clause-flow c = rw (← c.self.view_is) (absent_flow c.args.flow (stepped c.args.gates.now (target_of (exchanges_of c.self.inside) c.args.flow)) _ _ (not_there c.self.inside c.args.flow (not_found c))
    (left_alone c.self.inside c.get_mut.follows.lender-at-none c.get_mut.follows.holds-at-none))

pub returns-in_default-clause-sound : goal.returns-in_default-clause-sound
returns-in_default-clause-sound c = seen_sound _ (subst (λ live. IsKept (record c.self.inside { live = live })) (sym c.get_mut.follows.holds-at-none) c.self.invariant)

-- ---- one was
pub advance-advance-requires : goal.advance-advance-requires
advance-advance-requires c = record { «open» = open_if_there c.self.inside c.args.flow c.args.gates.now c.in-Some.exchange.now c.self.invariant c.in-Some.ensures.value (rw (← c.self.view_is) at c.requires.open) }

pub mark-requires : goal.mark-requires
mark-requires c = λ there none. mark_room c.self.inside c.args.flow c.in-Some.exchange.now c.advance-advance.new.self c.self.invariant c.in-Some.ensures.value none

lends : (c : goal.After-mark) → LentWhole c.self.inside c.get_mut.follows.lender c.mark.new.self c.args.flow c.in-Some.exchange.now c.advance-advance.new.self
lends c = record {
  kept = c.self.invariant;
  is = c.in-Some.ensures.value;
  sound = c.advance-advance.ensures.sound;
  through = c.get_mut.follows.holds c.advance-advance.new.self;
  marks = is_marked c.self.inside c.args.flow c.in-Some.exchange.now c.advance-advance.new.self c.self.invariant c.in-Some.ensures.value c.mark.new.self _ c.is_metered-is_metered.ensures c.mark.ensures.members c.mark.ensures.len c.mark.ensures.room;
}

abbrev after : goal.After-mark → Inside
after c = left_whole c.self.inside c.get_mut.follows.lender c.mark.new.self c.advance-advance.new.self

abbrev change : goal.After-mark → Flow → Flow
change c = stepped c.args.gates.now (goes_to c.args.flow.back c.in-Some.exchange.now)

abbrev IsDone : goal.After-mark → Type 0
IsDone c = c.advance-advance.new.self ≡ flow_changed (change c) c.args.flow.back (seen_at c.self.inside.ticked c.in-Some.exchange.now)

done : (c : goal.After-mark) → IsDone c → ChangesFlow c.args.flow (change c) (exchanges_of c.self.inside) (exchanges_of (after c)) × IsKept (after c)
done c = whole_done (lends c) (change c) (steady_stepped c.args.gates.now (goes_to c.args.flow.back c.in-Some.exchange.now))

seen_then : (c : goal.After-mark) → IsDone c → flow_at (exchanges_of (after c)) c.args.flow ≡ flow_in c.args.flow.back c.advance-advance.new.self
seen_then c = whole_seen (lends c) (change c) (steady_stepped c.args.gates.now (goes_to c.args.flow.back c.in-Some.exchange.now))

pub returns-clause-live : goal.returns-clause-live
returns-clause-live c = rw (← c.self.view_is) (if_ok _ _ _ c.advance-advance.result c.advance-advance.ensures.exchange c.advance-advance.ensures.step
    (λ advance is e. let same = same_there (λ (a : Advance). a.step) (next_step c.args.gates.now (target_of (exchanges_of c.self.inside) c.args.flow)) advance _ (e ∙ map_seen c.self.inside c.args.flow c.in-Some.ensures.value (next_step c.args.gates.now)) in
    (λ some. sym same ∙ some, λ live. same ∙ live)))

pub returns-clause-unit : goal.returns-clause-unit
returns-clause-unit c = let same : to_z w64 (of_z w64 c.args.room) ≡ c.args.room = to_z-of_z w64 c.args.room (assumption c.ranges.room) in
    if_ok _ _ _ c.advance-advance.result c.advance-advance.ensures.exchange c.advance-advance.ensures.unit
    (λ advance is e. cc (seen_then c is))

pub returns-clause-frameable : goal.returns-clause-frameable
returns-clause-frameable c = if_ok _ _ _ c.advance-advance.result c.advance-advance.ensures.exchange c.advance-advance.ensures.frameable
    (λ advance is e. rw (seen_then c is) e)

pub returns-clause-gone : goal.returns-clause-gone
returns-clause-gone c = rw (← c.self.view_is) (λ none.
    let seen : flow_in c.args.flow.back (seen_at c.self.inside.ticked c.in-Some.exchange.now) ≡ None = sym (seen_is c.self.inside c.args.flow c.in-Some.ensures.value) ∙ none_of (flow_at (exchanges_of c.self.inside) c.args.flow) none in (
      c.advance-advance.ensures.gone (sym (flow_there c.self.inside c.args.flow c.in-Some.exchange.now c.in-Some.ensures.value) ∙ none),
      either _ _ _ c.advance-advance.result c.advance-advance.ensures.exchange c.advance-advance.ensures.err
          (λ is. (whole_refused (lends c) (is ∙ absent_changed c.args.flow.back (change c) _ seen)).0) (λ is. (whole_refused (lends c) is).0),
    ))

pub invariant_of-self-2 : goal.invariant_of-self-2
invariant_of-self-2 c = either _ _ _ c.advance-advance.result c.advance-advance.ensures.exchange c.advance-advance.ensures.err (λ is. (done c is).1) (λ is. (whole_refused (lends c) is).1)

pub returns-clause-step : goal.returns-clause-step
returns-clause-step c = rw (← c.self.view_is) (if_ok _ _ _ c.advance-advance.result c.advance-advance.ensures.exchange c.advance-advance.ensures.step (λ step is e. e ∙ map_seen c.self.inside c.args.flow c.in-Some.ensures.value (next_step c.args.gates.now)))

pub returns-clause-flow : goal.returns-clause-flow
returns-clause-flow c = rw (← c.self.view_is) (on_ok _ _ c.advance-advance.result c.advance-advance.ensures.exchange
    (λ is. rw (aimed_is c.self.inside c.args.flow c.in-Some.ensures.value) (done c is).0))

pub returns-clause-covered : goal.returns-clause-covered
returns-clause-covered c = rw (← c.self.view_is) (says_aimed c.self.inside c.args.flow c.in-Some.ensures.value (λ to f. IsTrue (has_room_ahead c.args.gates.now to f) → IsOk c.advance-advance.result) c.advance-advance.ensures.covered)

pub returns-clause-sound : goal.returns-clause-sound
returns-clause-sound c = seen_sound _ (invariant_of-self-2 c)

pub returns-clause-err : goal.returns-clause-err
returns-clause-err c = rw (← c.self.view_is) (on_err _ _ c.advance-advance.result c.advance-advance.ensures.err (λ is. (whole_refused (lends c) is).0))
