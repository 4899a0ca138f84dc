-- A front of what waits for a connection is offered.
use Rattle.flow_notes.specs.declared.events.Event.TheVariants as event
use Rattle.shared_state.specs.PermitSeats.{view}
use Rattle.std.proofs.Common.{arith, eqb-true, refl, sym, ◌∙◌}
use Rattle.std.proofs.lemmas.Bool.{eqb-false}
use Rattle.worker_loop.proofs.Keeping.{keeps_more, keeps_offered, keeps_same, rises_more, rises_ok, rises_wires}
use Rattle.worker_loop.proofs.Offering.{is_piece, nothing_waits, offers_failed, offers_nothing, some_there, took_nothing, took_some}
use Rattle.worker_loop.specs.Places.{place_of}
use Rattle.worker_loop.proofs.offers.offer_one.Goals as goal

pub returns-then-is_empty-clause-fits : goal.returns-then-is_empty-clause-fits
returns-then-is_empty-clause-fits g c = c.ranges.conn.fits

pub returns-then-is_empty-clause-offers : goal.returns-then-is_empty-clause-offers
returns-then-is_empty-clause-offers g c =
    offers_nothing c.args.names.now c.args.conn c.args.core.now.kind (place_of (g.J.Sink.contents c.args.journal.now) (g.J.Journal.told c.args.journal.now) (g.W.Wires.seen c.args.wires.now) c.args.held.now (view c.args.seat.now)) c.requires.core (nothing_waits c.args.core.now.kind c.args.conn c.out_front.result.now c.first_of-front.result.now c.requires.core c.out_front.ensures c.first_of-front.ensures.some (eqb-true _ _ (sym c.is_empty.ensures ∙ c.if-is_empty.true)))

pub returns-then-is_empty-clause-keeps : goal.returns-then-is_empty-clause-keeps
returns-then-is_empty-clause-keeps g c = keeps_same c.args.permits.now (g.W.Wires.seen c.args.wires.now) (g.W.Wires.seen c.args.wires.now) c.args.held.now c.args.seat.now c.requires.holds refl

pub returns-then-is_empty-clause-rises : goal.returns-then-is_empty-clause-rises
returns-then-is_empty-clause-rises g c = rises_ok tt (g.W.Wires.faults c.args.wires.now) (g.W.Wires.faults c.args.wires.now) (g.J.Sink.faults c.args.journal.now) (g.J.Sink.faults c.args.journal.now) (omega arith) (omega arith)

pub returns-in-Err-clause-fits : goal.returns-in-Err-clause-fits
returns-in-Err-clause-fits g c = c.ranges.conn.fits

pub returns-in-Err-clause-offers : goal.returns-in-Err-clause-offers
returns-in-Err-clause-offers g c = offers_failed c.args.names.now c.args.conn c.args.core.now.kind (g.J.Sink.contents c.args.journal.now) (g.J.Journal.told c.args.journal.now) (g.W.Wires.seen c.args.wires.now) (g.W.Wires.seen c.offer.new.self) c.args.held.now (view c.args.seat.now) c.in-Err.ensures.err

pub returns-in-Err-clause-keeps : goal.returns-in-Err-clause-keeps
returns-in-Err-clause-keeps g c = keeps_same c.args.permits.now (g.W.Wires.seen c.args.wires.now) (g.W.Wires.seen c.offer.new.self) c.args.held.now c.args.seat.now c.requires.holds c.in-Err.ensures.err

pub returns-in-Err-clause-rises : goal.returns-in-Err-clause-rises
returns-in-Err-clause-rises g c = rises_wires (g.W.Wires.faults c.args.wires.now) (g.W.Wires.faults c.offer.new.self) (g.J.Sink.faults c.args.journal.now) (g.J.Sink.faults c.args.journal.now) c.offer.ensures.cause.no_fall (omega arith) (c.in-Err.ensures.cause.cause refl)

pub returns-then-took-eq0-clause-fits : goal.returns-then-took-eq0-clause-fits
returns-then-took-eq0-clause-fits g c = c.ranges.conn.fits

pub returns-then-took-eq0-clause-offers : goal.returns-then-took-eq0-clause-offers
returns-then-took-eq0-clause-offers g c =
    took_nothing c.args.names.now c.args.conn c.in-Ok.took c.first_of-front.result.now c.args.core.now.kind (g.J.Sink.contents c.args.journal.now) (g.J.Journal.told c.args.journal.now) (g.W.Wires.seen c.args.wires.now) (g.W.Wires.seen c.offer.new.self) c.args.held.now (view c.args.seat.now) (is_piece c.args.core.now.kind c.args.conn c.out_front.result.now c.first_of-front.result.now c.requires.core c.out_front.ensures c.first_of-front.ensures.is (some_there c.first_of-front.result.now (eqb-false _ _ (sym c.is_empty.ensures ∙ c.if-is_empty.false)))) c.in-Ok.ensures.bound c.in-Ok.ensures.ok c.requires.core c.if-took-eq0.true

pub returns-then-took-eq0-clause-keeps : goal.returns-then-took-eq0-clause-keeps
returns-then-took-eq0-clause-keeps g c = keeps_offered c.args.permits.now c.args.conn c.in-Ok.took c.first_of-front.result.now (g.W.Wires.seen c.args.wires.now) (g.W.Wires.seen c.offer.new.self) c.args.held.now c.args.seat.now c.requires.holds c.in-Ok.ensures.ok

pub returns-then-took-eq0-clause-rises : goal.returns-then-took-eq0-clause-rises
returns-then-took-eq0-clause-rises g c = rises_ok tt (g.W.Wires.faults c.args.wires.now) (g.W.Wires.faults c.offer.new.self) (g.J.Sink.faults c.args.journal.now) (g.J.Sink.faults c.args.journal.now) c.offer.ensures.cause.no_fall (omega arith)

pub overflow_cast-event : goal.overflow_cast-event
overflow_cast-event g c = let b = c.in-Ok.ensures.bound in let m = c.first_of-front.ensures.most in omega (arith, b, m)

pub carry_out-requires-clause-core : goal.carry_out-requires-clause-core
carry_out-requires-clause-core g c = c.requires.core

pub carry_out-requires-clause-event : goal.carry_out-requires-clause-event
carry_out-requires-clause-event g c = let b = c.in-Ok.ensures.bound in let m = c.first_of-front.ensures.most in (omega (arith, c.if-took-eq0.false), omega (arith, b, m))

pub carry_out-requires-clause-holds : goal.carry_out-requires-clause-holds
carry_out-requires-clause-holds g c = c.requires.holds

pub returns-clause-fits : goal.returns-clause-fits
returns-clause-fits g c = c.ranges.conn.fits

pub returns-clause-offers : goal.returns-clause-offers
returns-clause-offers g c =
    took_some c.args.names.now c.args.conn c.in-Ok.took c.first_of-front.result.now c.args.core.now.kind (g.J.Sink.contents c.args.journal.now) (g.J.Journal.told c.args.journal.now) (g.W.Wires.seen c.args.wires.now) (g.W.Wires.seen c.offer.new.self) c.args.held.now (view c.args.seat.now) (is_piece c.args.core.now.kind c.args.conn c.out_front.result.now c.first_of-front.result.now c.requires.core c.out_front.ensures c.first_of-front.ensures.is (some_there c.first_of-front.result.now (eqb-false _ _ (sym c.is_empty.ensures ∙ c.if-is_empty.false)))) c.in-Ok.ensures.bound c.in-Ok.ensures.ok c.carry_out.result c.carry_out.new.core.kind (place_of (g.J.Sink.contents c.carry_out.new.journal) (g.J.Journal.told c.carry_out.new.journal) (g.W.Wires.seen c.carry_out.new.wires) c.carry_out.new.held (view c.carry_out.new.seat)) (omega (arith, c.if-took-eq0.false)) c.carry_out.ensures.carries

pub returns-clause-keeps : goal.returns-clause-keeps
returns-clause-keeps g c =
    keeps_more c.args.permits.now (g.W.Wires.seen c.args.wires.now) (g.W.Wires.seen c.offer.new.self) (g.W.Wires.seen c.carry_out.new.wires) c.args.held.now c.args.held.now c.carry_out.new.held (view c.args.seat.now) c.args.seat.now c.carry_out.new.seat (keeps_offered c.args.permits.now c.args.conn c.in-Ok.took c.first_of-front.result.now (g.W.Wires.seen c.args.wires.now) (g.W.Wires.seen c.offer.new.self) c.args.held.now c.args.seat.now c.requires.holds c.in-Ok.ensures.ok) c.carry_out.ensures.keeps

pub returns-clause-rises : goal.returns-clause-rises
returns-clause-rises g c = rises_more c.carry_out.result (g.W.Wires.faults c.args.wires.now) (g.W.Wires.faults c.offer.new.self) (g.W.Wires.faults c.carry_out.new.wires) (g.J.Sink.faults c.args.journal.now) (g.J.Sink.faults c.args.journal.now) (g.J.Sink.faults c.carry_out.new.journal) c.offer.ensures.cause.no_fall (omega arith) c.carry_out.ensures.rises
