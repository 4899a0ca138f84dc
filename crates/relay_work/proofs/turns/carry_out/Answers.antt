-- An event is dispatched, and the connections are told.
use Rattle.relay_work.proofs.Carried.{carries_err, carries_kept, carries_ok, err_again, ready_takes}
use Rattle.relay_work.specs.Dispatching.{TakesFrom}
use Rattle.relay_work.specs.Live.{live_of}
use Rattle.relay_work.specs.declared.turns.RelayEnded.TheVariants as ended
use Rattle.std.proofs.Common.{arith, subst}
use Rattle.std.proofs.lemmas.Result.{err_from_is_err_and}
use Rattle.std.specs.Prelude.{Ok}
use Rattle.tcp_relay.specs.declared.interests.Interests.{Interests}
use Rattle.relay_work.proofs.turns.carry_out.Goals as goal

pub dispatch-requires : goal.dispatch-requires
dispatch-requires g c = ready_takes c.args.names.now c.args.relay.now (g.T.Wires.seen c.args.taps.now) c.args.conn c.args.event.now c.requires

pub returns-in_err-dispatch-clause-carries : goal.returns-in_err-dispatch-clause-carries
returns-in_err-dispatch-clause-carries g c =
    let p = err_from_is_err_and c.from_residual.result c.from_residual.ensures.1 in
    rw (p.1, p.2) (carries_err c.args.names.now c.args.conn c.args.event.now (live_of c.args.relay.now (g.T.Wires.seen c.args.taps.now) (g.J.Sink.contents c.args.journal.now))
    c.dispatch.new.relay (g.J.Sink.contents c.dispatch.new.journal) _ c.in_err-dispatch.ensures.takes)

pub returns-in_err-dispatch-clause-journal_fault : goal.returns-in_err-dispatch-clause-journal_fault
returns-in_err-dispatch-clause-journal_fault g c =
    let p = err_from_is_err_and c.from_residual.result c.from_residual.ensures.1 in
    rw (p.1, p.2) (λ q. c.in_err-dispatch.ensures.cause (err_again {T = Unit {0}} {U = Interests} _ ended.JournalFault q))

pub returns-in_err-dispatch-clause-taps_rise : goal.returns-in_err-dispatch-clause-taps_rise
returns-in_err-dispatch-clause-taps_rise g c = omega arith

pub returns-in_err-dispatch-clause-journal_rises : goal.returns-in_err-dispatch-clause-journal_rises
returns-in_err-dispatch-clause-journal_rises g c = c.dispatch.ensures.no_fall

-- ---- the relay's interests are as before
pub returns-in-Kept-clause-carries : goal.returns-in-Kept-clause-carries
returns-in-Kept-clause-carries g c = carries_kept c.args.names.now c.args.conn c.args.event.now (live_of c.args.relay.now (g.T.Wires.seen c.args.taps.now) (g.J.Sink.contents c.args.journal.now))
    c.dispatch.new.relay (g.J.Sink.contents c.dispatch.new.journal)
    (subst (λ (answer : Interests). TakesFrom c.args.names.now c.args.relay.now (g.J.Sink.contents c.args.journal.now) c.args.event.now (Ok answer) c.dispatch.new.relay
    (g.J.Sink.contents c.dispatch.new.journal)) c.in-Kept.is c.in_ok-dispatch.ensures.takes)

pub returns-in-Kept-clause-journal_fault : goal.returns-in-Kept-clause-journal_fault
returns-in-Kept-clause-journal_fault g c = λ e. cc

pub returns-in-Kept-clause-taps_rise : goal.returns-in-Kept-clause-taps_rise
returns-in-Kept-clause-taps_rise g c = omega arith

pub returns-in-Kept-clause-journal_rises : goal.returns-in-Kept-clause-journal_rises
returns-in-Kept-clause-journal_rises g c = c.dispatch.ensures.no_fall

-- ---- they aren't
pub returns-in-Changed-clause-carries : goal.returns-in-Changed-clause-carries
returns-in-Changed-clause-carries g c = carries_ok c.args.names.now c.args.conn c.args.event.now (live_of c.args.relay.now (g.T.Wires.seen c.args.taps.now) (g.J.Sink.contents c.args.journal.now))
    c.dispatch.new.relay (g.T.Wires.seen c.settle.new.taps) (g.J.Sink.contents c.dispatch.new.journal) c.parting-was.result c.in_ok-dispatch.field-0 c.parting-was.ensures
    c.in_ok-dispatch.ensures.takes c.settle.ensures.settles

pub returns-in-Changed-clause-journal_fault : goal.returns-in-Changed-clause-journal_fault
returns-in-Changed-clause-journal_fault g c = λ e. cc

pub returns-in-Changed-clause-taps_rise : goal.returns-in-Changed-clause-taps_rise
returns-in-Changed-clause-taps_rise g c = c.settle.ensures.no_fall

pub returns-in-Changed-clause-journal_rises : goal.returns-in-Changed-clause-journal_rises
returns-in-Changed-clause-journal_rises g c = c.dispatch.ensures.no_fall
