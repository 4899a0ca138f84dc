use Rattle.exchange_core.proofs.Finding.{flow_found, no_exchange, no_flow}
use Rattle.exchange_core.proofs.Lent.{Lent, left, lent_done, lent_order, lent_refused, lent_seen, says_seen, seen_says}
use Rattle.exchange_core.proofs.Outcomes.{either, from_found, if_ok, on_err, on_ok}
use Rattle.exchange_core.proofs.Writing.{send_crossed}
use Rattle.exchange_core.proofs.Seeing.{seen_sound}
use Rattle.exchange_core.proofs.Steady.{calm_framed, steady_framed}
use Rattle.exchange_core.proofs.exchanges.Exchanges.frame_unit.Goals as goal
use Rattle.exchange_core.specs.Changes.{ChangesFlow}
use Rattle.exchange_core.specs.Effects.{body_framed}
use Rattle.exchange_core.specs.Exchanges.{flow_at}
use Rattle.exchange_core.specs.Flow.{Flow, send, meters_hold}
use Rattle.exchange_core.specs.Message.{head_waits}
use Rattle.exchange_core.specs.Units.{IsFrameable, carries_end, next_unit}
use Rattle.exchange_core.specs.View.{IsKept, exchanges_of}
use Rattle.exchange_core.specs.declared.exchanges.Exchanges.TheInside.{Inside}
use Rattle.std.proofs.Common.{ap, sym, w64, ◌∙◌}
use Rattle.std.proofs.lemmas.Int.{to_z-of_z}
use Rattle.std.specs.Option.{option_copied_mut}
use Rattle.std.specs.Prelude.{IsTrue, OnOk, Some, false, length, option_map, take, ◌++◌, ◌≡◌, ◌≤◌}
use Rattle.wm_buffer.specs.Buffer.{AppendsOctets}
use mir.Val.{of_z, to_z}

pub unreachable-requires : goal.unreachable-requires
unreachable-requires c = no_exchange c.self.inside c.args.flow (ap option_copied_mut (sym c.in_default.is) ∙ c.get_mut.ensures.value) (rw (← c.self.view_is) at c.requires.live)

pub unreachable-requires-in_default-touch : goal.unreachable-requires-in_default-touch
unreachable-requires-in_default-touch c = no_flow c.self.inside c.args.flow c.in-Some.exchange.now c.in-Some.ensures.value
    (ap option_copied_mut (sym c.in_default-touch.is) ∙ c.touch.ensures.value) (rw (← c.self.view_is) at c.requires.live)

pub frame_unit-requires-clause-headed : goal.frame_unit-requires-clause-headed
frame_unit-requires-clause-headed c = seen_says (λ f. head_waits f.message ≡ false) c.self.inside c.args.flow c.in-Some.ensures.value c.in-Some-touch.ensures.value (rw (← c.self.view_is) at c.requires.headed)

pub frame_unit-requires-clause-octets : goal.frame_unit-requires-clause-octets
frame_unit-requires-clause-octets c = seen_says (λ f. c.args.piece.n ≤ length (send f)) c.self.inside c.args.flow c.in-Some.ensures.value c.in-Some-touch.ensures.value (rw (← c.self.view_is) at c.requires.octets)

pub frame_unit-requires-clause-all : goal.frame_unit-requires-clause-all
frame_unit-requires-clause-all c = λ last. seen_says (λ f. IsTrue (carries_end c.args.piece.n f)) c.self.inside c.args.flow c.in-Some.ensures.value c.in-Some-touch.ensures.value ((rw (← c.self.view_is) at c.requires.all) last)

lends : (c : goal.After-self-2-1) → Lent c.self.inside c.get_mut.follows.lender c.args.flow c.in-Some.exchange.now c.in-Some-touch.flow.now c.frame_unit.new.self
lends c = record { kept = c.self.invariant; is = c.in-Some.ensures.value; there = c.in-Some-touch.ensures.value; sound = c.frame_unit.ensures.sound; through = c.get_mut.follows.holds _ }

abbrev after : goal.After-self-2-1 → Inside
after c = left c.self.inside c.get_mut.follows.lender c.args.flow c.in-Some.exchange.now c.frame_unit.new.self

abbrev change : goal.After-self-2-1 → Flow → Flow
change c = body_framed c.args.piece.n c.args.piece.last

calm : (c : goal.After-self-2-1) → meters_hold (change c c.in-Some-touch.flow.now) ≡ meters_hold c.in-Some-touch.flow.now
calm c = calm_framed c.args.piece.n c.args.piece.last c.in-Some-touch.flow.now (lent_order (lends c))

done : (c : goal.After-self-2-1) → c.frame_unit.new.self ≡ change c c.in-Some-touch.flow.now → ChangesFlow c.args.flow (change c) (exchanges_of c.self.inside) (exchanges_of (after c)) × IsKept (after c)
done c is = lent_done (lends c) (change c) (steady_framed c.args.piece.n c.args.piece.last) is (calm c)

pub invariant_of-self : goal.invariant_of-self
invariant_of-self c = either _ _ _ c.frame_unit.result c.frame_unit.ensures.frames c.frame_unit.ensures.err (λ is. (done c is).1) (λ is. (lent_refused (lends c) is.0).1)

pub returns-clause-frames : goal.returns-clause-frames
returns-clause-frames c = rw (← c.self.view_is) (on_ok _ _ c.frame_unit.result c.frame_unit.ensures.frames (λ is. (done c is).0))

pub returns-clause-appends : goal.returns-clause-appends
returns-clause-appends c = rw (← c.self.view_is) (says_seen (λ f. OnOk c.frame_unit.result (AppendsOctets c.args.out.now c.frame_unit.new.out (c.args.head.now ++ take c.args.piece.n (send f)))) c.self.inside c.args.flow (lends c).is (lends c).there c.frame_unit.ensures.appends)

pub returns-clause-from : goal.returns-clause-from
returns-clause-from c = rw (← c.self.view_is) (if_ok _ _ _ c.frame_unit.result c.frame_unit.ensures.frames c.frame_unit.ensures.from
    (λ framed is e. e ∙ send_crossed c.args.flow (change c) _ _ c.in-Some-touch.flow.now c.frame_unit.new.self (done c is).0 (flow_found c.self.inside c.args.flow _ _ (lends c).is (lends c).there) is))

seen_then : (c : goal.After-self-2-1) → c.frame_unit.new.self ≡ change c c.in-Some-touch.flow.now → flow_at (exchanges_of (after c)) c.args.flow ≡ Some c.frame_unit.new.self
seen_then c is = lent_seen (lends c) (change c) (steady_framed c.args.piece.n c.args.piece.last) is (calm c)

pub returns-clause-unit : goal.returns-clause-unit
returns-clause-unit c = let same : to_z w64 (of_z w64 c.args.room) ≡ c.args.room = to_z-of_z w64 c.args.room (assumption c.ranges.room) in
    if_ok _ _ _ c.frame_unit.result c.frame_unit.ensures.frames c.frame_unit.ensures.unit
    (λ framed is e. ap Some (e ∙ ap (λ z. next_unit z c.args.frame c.frame_unit.new.self) same) ∙ ap (option_map (next_unit c.args.room c.args.frame)) (sym (seen_then c is)))

pub returns-clause-frameable : goal.returns-clause-frameable
returns-clause-frameable c = if_ok _ _ _ c.frame_unit.result c.frame_unit.ensures.frames c.frame_unit.ensures.frameable
    (λ framed is e. from_found (IsFrameable framed.1) _ c.frame_unit.new.self (seen_then c is) e)

pub returns-clause-sound : goal.returns-clause-sound
returns-clause-sound c = seen_sound _ (invariant_of-self c)

pub returns-clause-err : goal.returns-clause-err
returns-clause-err c = rw (← c.self.view_is) (on_err _ _ c.frame_unit.result c.frame_unit.ensures.err (λ is. ((lent_refused (lends c) is.0).0, is.1)))
