-- What waits is offered, once to each connection.
use Rattle.shared_state.specs.PermitSeats.{view}
use Rattle.std.proofs.Common.{arith, refl}
use Rattle.std.proofs.lemmas.Result.{err_from_is_err_and}
use Rattle.worker_loop.proofs.Keeping.{keeps_more, keeps_same, rises_more, rises_ok}
use Rattle.worker_loop.proofs.Offering.{all_offered, cut_offers, more_offered, next_above, none_offered}
use Rattle.worker_loop.specs.Places.{place_of}
use Rattle.worker_loop.proofs.offers.offer_all.Goals as goal

pub loop-conn-init : goal.loop-conn-init
loop-conn-init g c = record {
  core = c.requires.core;
  some = none_offered c.args.names.now c.args.core.now.kind (place_of (g.J.Sink.contents c.args.journal.now) (g.J.Journal.told c.args.journal.now) (g.W.Wires.seen c.args.wires.now) c.args.held.now (view c.args.seat.now));
  keeps = keeps_same c.args.permits.now (g.W.Wires.seen c.args.wires.now) (g.W.Wires.seen c.args.wires.now) c.args.held.now c.args.seat.now c.requires.holds refl;
  wires = omega arith;
  journal = omega arith;
}

pub offer_one-requires-clause-core : goal.offer_one-requires-clause-core
offer_one-requires-clause-core g c = c.loop-conn.invariant.core

pub offer_one-requires-clause-holds : goal.offer_one-requires-clause-holds
offer_one-requires-clause-holds g c = c.loop-conn.invariant.keeps.holds

pub returns-in_err-offer_one-clause-offers : goal.returns-in_err-offer_one-clause-offers
returns-in_err-offer_one-clause-offers g c =
    let p = err_from_is_err_and c.from_residual.result c.from_residual.ensures.1 in
    rw (p.1, p.2) (cut_offers c.args.names.now c.loop-conn.last c.in-Some.conn c.args.core.now.kind c.loop-conn.core.kind c.offer_one.new.core.kind (place_of (g.J.Sink.contents c.args.journal.now) (g.J.Journal.told c.args.journal.now) (g.W.Wires.seen c.args.wires.now) c.args.held.now (view c.args.seat.now)) (place_of (g.J.Sink.contents c.loop-conn.journal) (g.J.Journal.told c.loop-conn.journal) (g.W.Wires.seen c.loop-conn.wires) c.loop-conn.held (view c.loop-conn.seat)) (place_of (g.J.Sink.contents c.offer_one.new.journal) (g.J.Journal.told c.offer_one.new.journal) (g.W.Wires.seen c.offer_one.new.wires) c.offer_one.new.held (view c.offer_one.new.seat)) _ c.loop-conn.invariant.some c.in_err-offer_one.ensures.offers)

pub returns-in_err-offer_one-clause-keeps : goal.returns-in_err-offer_one-clause-keeps
returns-in_err-offer_one-clause-keeps g c = keeps_more c.args.permits.now (g.W.Wires.seen c.args.wires.now) (g.W.Wires.seen c.loop-conn.wires) (g.W.Wires.seen c.offer_one.new.wires) c.args.held.now c.loop-conn.held c.offer_one.new.held (view c.args.seat.now) c.loop-conn.seat c.offer_one.new.seat c.loop-conn.invariant.keeps c.offer_one.ensures.keeps

pub returns-in_err-offer_one-clause-rises : goal.returns-in_err-offer_one-clause-rises
returns-in_err-offer_one-clause-rises g c =
    let p = err_from_is_err_and c.from_residual.result c.from_residual.ensures.1 in
    rw (p.1, p.2) (rises_more _ (g.W.Wires.faults c.args.wires.now) (g.W.Wires.faults c.loop-conn.wires) (g.W.Wires.faults c.offer_one.new.wires) (g.J.Sink.faults c.args.journal.now) (g.J.Sink.faults c.loop-conn.journal) (g.J.Sink.faults c.offer_one.new.journal) c.loop-conn.invariant.wires c.loop-conn.invariant.journal c.in_err-offer_one.ensures.rises)

pub loop-conn-smaller : goal.loop-conn-smaller
loop-conn-smaller g c =
    let l = next_above c.loop-conn.core.kind c.loop-conn.last c.in-Some.conn c.loop-conn.invariant.core c.in-Some.ensures in
    let f = c.offer_one.ensures.fits in
    omega (arith, l, f)

pub loop-conn-preserved : goal.loop-conn-preserved
loop-conn-preserved g c = record {
  core = c.in_ok-offer_one.ensures.offers.1;
  some = more_offered c.args.names.now c.loop-conn.last c.in-Some.conn c.args.core.now.kind c.loop-conn.core.kind (place_of (g.J.Sink.contents c.args.journal.now) (g.J.Journal.told c.args.journal.now) (g.W.Wires.seen c.args.wires.now) c.args.held.now (view c.args.seat.now)) (place_of (g.J.Sink.contents c.loop-conn.journal) (g.J.Journal.told c.loop-conn.journal) (g.W.Wires.seen c.loop-conn.wires) c.loop-conn.held (view c.loop-conn.seat)) c.in-Some.ensures c.loop-conn.invariant.some c.in_ok-offer_one.ensures.offers.0;
  keeps = keeps_more c.args.permits.now (g.W.Wires.seen c.args.wires.now) (g.W.Wires.seen c.loop-conn.wires) (g.W.Wires.seen c.offer_one.new.wires) c.args.held.now c.loop-conn.held c.offer_one.new.held (view c.args.seat.now) c.loop-conn.seat c.offer_one.new.seat c.loop-conn.invariant.keeps c.offer_one.ensures.keeps;
  wires = omega (arith, c.loop-conn.invariant.wires, c.offer_one.ensures.rises.at_wires);
  journal = omega (arith, c.loop-conn.invariant.journal, c.offer_one.ensures.rises.at_journal);
}

pub returns-clause-offers : goal.returns-clause-offers
returns-clause-offers g c = all_offered c.args.names.now c.loop-conn.last c.args.core.now.kind c.loop-conn.core.kind (place_of (g.J.Sink.contents c.args.journal.now) (g.J.Journal.told c.args.journal.now) (g.W.Wires.seen c.args.wires.now) c.args.held.now (view c.args.seat.now)) (place_of (g.J.Sink.contents c.loop-conn.journal) (g.J.Journal.told c.loop-conn.journal) (g.W.Wires.seen c.loop-conn.wires) c.loop-conn.held (view c.loop-conn.seat)) c.loop-conn.invariant.core c.in_default.ensures c.loop-conn.invariant.some

pub returns-clause-keeps : goal.returns-clause-keeps
returns-clause-keeps g c = c.loop-conn.invariant.keeps

pub returns-clause-rises : goal.returns-clause-rises
returns-clause-rises g c = rises_ok tt (g.W.Wires.faults c.args.wires.now) (g.W.Wires.faults c.loop-conn.wires) (g.J.Sink.faults c.args.journal.now) (g.J.Sink.faults c.loop-conn.journal) c.loop-conn.invariant.wires c.loop-conn.invariant.journal
