-- What waits for one connection is offered.
use Rattle.relay_work.proofs.Carried.{carries_no_fault}
use Rattle.relay_work.proofs.Offered.{is_ready, offers_failed, offers_none, offers_some}
use Rattle.relay_work.specs.Live.{live_of}
use Rattle.std.proofs.Common.{arith, refl}
use Rattle.flow_notes.specs.declared.events.Event.TheVariants as event
use Rattle.relay_work.proofs.turns.offer_one.Goals as goal

pub returns-in-Err-clause-fits : goal.returns-in-Err-clause-fits
returns-in-Err-clause-fits g c = c.ranges.conn.fits

pub returns-in-Err-clause-offers : goal.returns-in-Err-clause-offers
returns-in-Err-clause-offers g c = offers_failed c.args.names.now c.args.conn (live_of c.args.relay.now (g.T.Wires.seen c.args.taps.now) (g.J.Sink.contents c.args.journal.now)) (g.T.Wires.seen c.offer.new.self) c.in-Err.ensures.err

pub returns-in-Err-clause-taps_fault : goal.returns-in-Err-clause-taps_fault
returns-in-Err-clause-taps_fault g c = λ e. c.in-Err.ensures.cause.cause refl

pub returns-in-Err-clause-journal_fault : goal.returns-in-Err-clause-journal_fault
returns-in-Err-clause-journal_fault g c = λ e. cc

pub returns-in-Err-clause-taps_rise : goal.returns-in-Err-clause-taps_rise
returns-in-Err-clause-taps_rise g c = c.offer.ensures.cause.no_fall

pub returns-in-Err-clause-journal_rises : goal.returns-in-Err-clause-journal_rises
returns-in-Err-clause-journal_rises g c = omega arith

pub returns-then-took-eq0-clause-fits : goal.returns-then-took-eq0-clause-fits
returns-then-took-eq0-clause-fits g c = c.ranges.conn.fits

pub returns-then-took-eq0-clause-offers : goal.returns-then-took-eq0-clause-offers
returns-then-took-eq0-clause-offers g c = offers_none c.args.names.now c.args.conn (live_of c.args.relay.now (g.T.Wires.seen c.args.taps.now) (g.J.Sink.contents c.args.journal.now)) c.out_front.result.now c.first_of.result.now c.in-Ok.took (g.T.Wires.seen c.offer.new.self)
    c.out_front.ensures c.first_of.ensures.front c.in-Ok.ensures.bound c.in-Ok.ensures.ok c.if-took-eq0.true

pub returns-then-took-eq0-clause-taps_fault : goal.returns-then-took-eq0-clause-taps_fault
returns-then-took-eq0-clause-taps_fault g c = λ e. cc

pub returns-then-took-eq0-clause-journal_fault : goal.returns-then-took-eq0-clause-journal_fault
returns-then-took-eq0-clause-journal_fault g c = λ e. cc

pub returns-then-took-eq0-clause-taps_rise : goal.returns-then-took-eq0-clause-taps_rise
returns-then-took-eq0-clause-taps_rise g c = c.offer.ensures.cause.no_fall

pub returns-then-took-eq0-clause-journal_rises : goal.returns-then-took-eq0-clause-journal_rises
returns-then-took-eq0-clause-journal_rises g c = omega arith

pub overflow_cast-event : goal.overflow_cast-event
overflow_cast-event g c = let b = c.in-Ok.ensures.bound in let m = c.first_of.ensures.most in omega (arith, b, m)

pub carry_out-requires : goal.carry_out-requires
carry_out-requires g c =
    let b = c.in-Ok.ensures.bound in
    let m = c.first_of.ensures.most in
    is_ready c.args.names.now c.args.conn c.args.relay.now (g.T.Wires.seen c.args.taps.now) (g.J.Sink.contents c.args.journal.now) c.out_front.result.now c.first_of.result.now c.in-Ok.took (g.T.Wires.seen c.offer.new.self)
    c.requires c.out_front.ensures c.first_of.ensures.front c.in-Ok.ensures.bound c.in-Ok.ensures.ok
    (omega (arith, c.if-took-eq0.false)) (omega (arith, b, m)) (c.ranges.conn.fits, omega (arith, b, m))

pub returns-clause-fits : goal.returns-clause-fits
returns-clause-fits g c = c.ranges.conn.fits

pub returns-clause-offers : goal.returns-clause-offers
returns-clause-offers g c =
    let b = c.in-Ok.ensures.bound in
    let m = c.first_of.ensures.most in
    offers_some c.args.names.now c.args.conn (live_of c.args.relay.now (g.T.Wires.seen c.args.taps.now) (g.J.Sink.contents c.args.journal.now)) (live_of c.carry_out.new.relay (g.T.Wires.seen c.carry_out.new.taps) (g.J.Sink.contents c.carry_out.new.journal)) c.out_front.result.now c.first_of.result.now c.in-Ok.took (g.T.Wires.seen c.offer.new.self) c.carry_out.result
    c.out_front.ensures c.first_of.ensures.front c.in-Ok.ensures.bound c.in-Ok.ensures.ok
    (omega (arith, c.if-took-eq0.false)) (omega (arith, b, m)) (c.ranges.conn.fits, omega (arith, b, m)) c.carry_out.ensures.carries

pub returns-clause-taps_fault : goal.returns-clause-taps_fault
returns-clause-taps_fault g c = λ e.
    let b = c.in-Ok.ensures.bound in
    let m = c.first_of.ensures.most in
    absurd (carries_no_fault c.args.names.now c.args.conn (event.Room c.args.conn c.in-Ok.took) (live_of c.args.relay.now (g.T.Wires.seen c.offer.new.self) (g.J.Sink.contents c.args.journal.now))
    (live_of c.carry_out.new.relay (g.T.Wires.seen c.carry_out.new.taps) (g.J.Sink.contents c.carry_out.new.journal)) c.carry_out.result c.carry_out.ensures.carries
    (is_ready c.args.names.now c.args.conn c.args.relay.now (g.T.Wires.seen c.args.taps.now) (g.J.Sink.contents c.args.journal.now) c.out_front.result.now c.first_of.result.now c.in-Ok.took (g.T.Wires.seen c.offer.new.self)
    c.requires c.out_front.ensures c.first_of.ensures.front c.in-Ok.ensures.bound c.in-Ok.ensures.ok
    (omega (arith, c.if-took-eq0.false)) (omega (arith, b, m)) (c.ranges.conn.fits, omega (arith, b, m))) e)

pub returns-clause-journal_fault : goal.returns-clause-journal_fault
returns-clause-journal_fault g c = c.carry_out.ensures.journal_fault

pub returns-clause-taps_rise : goal.returns-clause-taps_rise
returns-clause-taps_rise g c = omega (arith, c.offer.ensures.cause.no_fall, c.carry_out.ensures.taps_rise)

pub returns-clause-journal_rises : goal.returns-clause-journal_rises
returns-clause-journal_rises g c = c.carry_out.ensures.journal_rises
