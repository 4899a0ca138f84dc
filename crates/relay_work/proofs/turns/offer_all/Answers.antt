-- What waits is offered, once to each connection.
use Rattle.relay_work.proofs.Carried.{rose_later}
use Rattle.relay_work.proofs.Turned.{all_cut, all_offered, offers_begin, rises, some_more, waits}
use Rattle.relay_work.specs.Live.{live_of}
use Rattle.std.proofs.Common.{arith}
use Rattle.std.proofs.lemmas.Result.{err_from_is_err_and}
use Rattle.relay_work.proofs.turns.offer_all.Goals as goal

pub loop-conn-init : goal.loop-conn-init
loop-conn-init g c = record { offers = offers_begin c.args.names.now (live_of c.args.relay.now (g.T.Wires.seen c.args.taps.now) (g.J.Sink.contents c.args.journal.now)); taps = omega arith; journal = omega arith }

pub offer_one-requires : goal.offer_one-requires
offer_one-requires g c = waits c.args.names.now (live_of c.args.relay.now (g.T.Wires.seen c.args.taps.now) (g.J.Sink.contents c.args.journal.now)) (live_of c.loop-conn.relay (g.T.Wires.seen c.loop-conn.taps) (g.J.Sink.contents c.loop-conn.journal)) c.loop-conn.last c.in-Some.conn c.requires c.loop-conn.invariant.offers c.in-Some.ensures

pub returns-in_err-offer_one-clause-offers : goal.returns-in_err-offer_one-clause-offers
returns-in_err-offer_one-clause-offers g c =
    let p = err_from_is_err_and c.from_residual.result c.from_residual.ensures.1 in
    rw (p.1, p.2) (all_cut c.args.names.now (live_of c.args.relay.now (g.T.Wires.seen c.args.taps.now) (g.J.Sink.contents c.args.journal.now)) (live_of c.loop-conn.relay (g.T.Wires.seen c.loop-conn.taps) (g.J.Sink.contents c.loop-conn.journal)) (live_of c.offer_one.new.relay (g.T.Wires.seen c.offer_one.new.taps) (g.J.Sink.contents c.offer_one.new.journal)) c.loop-conn.last c.in-Some.conn _ c.loop-conn.invariant.offers c.in-Some.ensures c.in_err-offer_one.ensures.offers)

pub returns-in_err-offer_one-clause-taps_fault : goal.returns-in_err-offer_one-clause-taps_fault
returns-in_err-offer_one-clause-taps_fault g c =
    let p = err_from_is_err_and c.from_residual.result c.from_residual.ensures.1 in
    rw (p.1, p.2) (λ q. rose_later (g.T.Wires.faults c.args.taps.now) (g.T.Wires.faults c.loop-conn.taps) (g.T.Wires.faults c.offer_one.new.taps) c.loop-conn.invariant.taps (c.in_err-offer_one.ensures.taps_fault q))

pub returns-in_err-offer_one-clause-journal_fault : goal.returns-in_err-offer_one-clause-journal_fault
returns-in_err-offer_one-clause-journal_fault g c =
    let p = err_from_is_err_and c.from_residual.result c.from_residual.ensures.1 in
    rw (p.1, p.2) (λ q. rose_later (g.J.Sink.faults c.args.journal.now) (g.J.Sink.faults c.loop-conn.journal) (g.J.Sink.faults c.offer_one.new.journal) c.loop-conn.invariant.journal (c.in_err-offer_one.ensures.journal_fault q))

pub returns-in_err-offer_one-clause-taps_rise : goal.returns-in_err-offer_one-clause-taps_rise
returns-in_err-offer_one-clause-taps_rise g c = omega (arith, c.loop-conn.invariant.taps, c.offer_one.ensures.taps_rise)

pub returns-in_err-offer_one-clause-journal_rises : goal.returns-in_err-offer_one-clause-journal_rises
returns-in_err-offer_one-clause-journal_rises g c = omega (arith, c.loop-conn.invariant.journal, c.offer_one.ensures.journal_rises)

pub loop-conn-smaller : goal.loop-conn-smaller
loop-conn-smaller g c =
    let l = rises c.args.names.now (live_of c.args.relay.now (g.T.Wires.seen c.args.taps.now) (g.J.Sink.contents c.args.journal.now)) (live_of c.loop-conn.relay (g.T.Wires.seen c.loop-conn.taps) (g.J.Sink.contents c.loop-conn.journal)) c.loop-conn.last c.in-Some.conn c.requires c.loop-conn.invariant.offers c.in-Some.ensures in
    let f = c.offer_one.ensures.fits in
    omega (arith, l, f)

pub loop-conn-preserved : goal.loop-conn-preserved
loop-conn-preserved g c = record {
  offers = some_more c.args.names.now (live_of c.args.relay.now (g.T.Wires.seen c.args.taps.now) (g.J.Sink.contents c.args.journal.now)) (live_of c.loop-conn.relay (g.T.Wires.seen c.loop-conn.taps) (g.J.Sink.contents c.loop-conn.journal)) (live_of c.offer_one.new.relay (g.T.Wires.seen c.offer_one.new.taps) (g.J.Sink.contents c.offer_one.new.journal)) c.loop-conn.last c.in-Some.conn c.loop-conn.invariant.offers c.in-Some.ensures c.in_ok-offer_one.ensures.offers;
  taps = omega (arith, c.loop-conn.invariant.taps, c.offer_one.ensures.taps_rise);
  journal = omega (arith, c.loop-conn.invariant.journal, c.offer_one.ensures.journal_rises);
}

pub returns-clause-offers : goal.returns-clause-offers
returns-clause-offers g c = all_offered c.args.names.now (live_of c.args.relay.now (g.T.Wires.seen c.args.taps.now) (g.J.Sink.contents c.args.journal.now)) (live_of c.loop-conn.relay (g.T.Wires.seen c.loop-conn.taps) (g.J.Sink.contents c.loop-conn.journal)) c.loop-conn.last c.loop-conn.invariant.offers c.in_default.ensures

pub returns-clause-taps_fault : goal.returns-clause-taps_fault
returns-clause-taps_fault g c = λ e. cc

pub returns-clause-journal_fault : goal.returns-clause-journal_fault
returns-clause-journal_fault g c = λ e. cc

pub returns-clause-taps_rise : goal.returns-clause-taps_rise
returns-clause-taps_rise g c = c.loop-conn.invariant.taps

pub returns-clause-journal_rises : goal.returns-clause-journal_rises
returns-clause-journal_rises g c = c.loop-conn.invariant.journal
