-- A turn: what came, and the offers.
use Rattle.relay_work.proofs.Carried.{err_again, rose_later}
use Rattle.relay_work.proofs.Turned.{answered_belongs, turn_cut, turn_cut_first, turn_whole}
use Rattle.relay_work.specs.Live.{live_of}
use Rattle.relay_work.specs.declared.turns.RelayEnded.TheVariants as ended
use Rattle.std.proofs.Common.{arith}
use Rattle.std.proofs.lemmas.Result.{err_from_is_err_and}
use Rattle.std.specs.Prelude.{Bool}
use Rattle.relay_work.proofs.turns.turn.Goals as goal

pub answer-requires : goal.answer-requires
answer-requires g c = c.requires

pub returns-in_err-stops-clause-turns : goal.returns-in_err-stops-clause-turns
returns-in_err-stops-clause-turns g c =
    let p = err_from_is_err_and c.from_residual.result c.from_residual.ensures.1 in
    rw (p.1, p.2) (turn_cut_first c.args.names.now (live_of c.args.relay.now (g.T.Wires.seen c.args.taps.now) (g.J.Sink.contents c.args.journal.now)) (live_of c.answer.new.relay (g.T.Wires.seen c.answer.new.taps) (g.J.Sink.contents c.answer.new.journal)) _ c.in_err-stops.ensures.answers)

pub offer_all-requires : goal.offer_all-requires
offer_all-requires g c = answered_belongs c.args.names.now (live_of c.args.relay.now (g.T.Wires.seen c.args.taps.now) (g.J.Sink.contents c.args.journal.now)) (live_of c.answer.new.relay (g.T.Wires.seen c.answer.new.taps) (g.J.Sink.contents c.answer.new.journal)) c.in_ok-stops.stops c.requires c.in_ok-stops.ensures.answers

pub returns-in_err-offer_all-clause-turns : goal.returns-in_err-offer_all-clause-turns
returns-in_err-offer_all-clause-turns g c =
    let p = err_from_is_err_and c.from_residual-in_err-offer_all.result c.from_residual-in_err-offer_all.ensures.1 in
    rw (p.1, p.2) (turn_cut c.args.names.now (live_of c.args.relay.now (g.T.Wires.seen c.args.taps.now) (g.J.Sink.contents c.args.journal.now)) (live_of c.answer.new.relay (g.T.Wires.seen c.answer.new.taps) (g.J.Sink.contents c.answer.new.journal)) (live_of c.offer_all.new.relay (g.T.Wires.seen c.offer_all.new.taps) (g.J.Sink.contents c.offer_all.new.journal)) c.in_ok-stops.stops _ c.in_ok-stops.ensures.answers c.in_err-offer_all.ensures.offers)

pub returns-clause-turns : goal.returns-clause-turns
returns-clause-turns g c = turn_whole c.args.names.now (live_of c.args.relay.now (g.T.Wires.seen c.args.taps.now) (g.J.Sink.contents c.args.journal.now)) (live_of c.answer.new.relay (g.T.Wires.seen c.answer.new.taps) (g.J.Sink.contents c.answer.new.journal)) (live_of c.offer_all.new.relay (g.T.Wires.seen c.offer_all.new.taps) (g.J.Sink.contents c.offer_all.new.journal)) c.in_ok-stops.stops c.in_ok-stops.ensures.answers c.in_ok-offer_all.ensures.offers

-- ---- faults, where the answer was cut short
pub returns-in_err-stops-clause-taps_fault : goal.returns-in_err-stops-clause-taps_fault
returns-in_err-stops-clause-taps_fault g c =
    let p = err_from_is_err_and c.from_residual.result c.from_residual.ensures.1 in
    rw (p.1, p.2) c.in_err-stops.ensures.taps_fault

pub returns-in_err-stops-clause-journal_fault : goal.returns-in_err-stops-clause-journal_fault
returns-in_err-stops-clause-journal_fault g c =
    let p = err_from_is_err_and c.from_residual.result c.from_residual.ensures.1 in
    rw (p.1, p.2) c.in_err-stops.ensures.journal_fault

pub returns-in_err-stops-clause-taps_rise : goal.returns-in_err-stops-clause-taps_rise
returns-in_err-stops-clause-taps_rise g c = c.answer.ensures.taps_rise

pub returns-in_err-stops-clause-journal_rises : goal.returns-in_err-stops-clause-journal_rises
returns-in_err-stops-clause-journal_rises g c = c.answer.ensures.journal_rises

-- ---- faults, where the offers were
pub returns-in_err-offer_all-clause-taps_fault : goal.returns-in_err-offer_all-clause-taps_fault
returns-in_err-offer_all-clause-taps_fault g c =
    let p = err_from_is_err_and c.from_residual-in_err-offer_all.result c.from_residual-in_err-offer_all.ensures.1 in
    rw (p.1, p.2) (λ q. rose_later (g.T.Wires.faults c.args.taps.now) (g.T.Wires.faults c.answer.new.taps) (g.T.Wires.faults c.offer_all.new.taps) c.answer.ensures.taps_rise
    (c.in_err-offer_all.ensures.taps_fault (err_again {T = Bool} {U = Unit {0}} _ ended.TapsFault q)))

pub returns-in_err-offer_all-clause-journal_fault : goal.returns-in_err-offer_all-clause-journal_fault
returns-in_err-offer_all-clause-journal_fault g c =
    let p = err_from_is_err_and c.from_residual-in_err-offer_all.result c.from_residual-in_err-offer_all.ensures.1 in
    rw (p.1, p.2) (λ q. rose_later (g.J.Sink.faults c.args.journal.now) (g.J.Sink.faults c.answer.new.journal) (g.J.Sink.faults c.offer_all.new.journal) c.answer.ensures.journal_rises
    (c.in_err-offer_all.ensures.journal_fault (err_again {T = Bool} {U = Unit {0}} _ ended.JournalFault q)))

pub returns-in_err-offer_all-clause-taps_rise : goal.returns-in_err-offer_all-clause-taps_rise
returns-in_err-offer_all-clause-taps_rise g c = omega (arith, c.answer.ensures.taps_rise, c.offer_all.ensures.taps_rise)

pub returns-in_err-offer_all-clause-journal_rises : goal.returns-in_err-offer_all-clause-journal_rises
returns-in_err-offer_all-clause-journal_rises g c = omega (arith, c.answer.ensures.journal_rises, c.offer_all.ensures.journal_rises)

-- ---- a whole turn has none
pub returns-clause-taps_fault : goal.returns-clause-taps_fault
returns-clause-taps_fault g c = λ e. cc

pub returns-clause-journal_fault : goal.returns-clause-journal_fault
returns-clause-journal_fault g c = λ e. cc

pub returns-clause-taps_rise : goal.returns-clause-taps_rise
returns-clause-taps_rise g c = omega (arith, c.answer.ensures.taps_rise, c.offer_all.ensures.taps_rise)

pub returns-clause-journal_rises : goal.returns-clause-journal_rises
returns-clause-journal_rises g c = omega (arith, c.answer.ensures.journal_rises, c.offer_all.ensures.journal_rises)
