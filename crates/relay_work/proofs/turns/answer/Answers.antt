-- What the connections tell is carried out.
use Rattle.relay_work.proofs.Answered.{answers_cut, answers_failed, answers_memory, answers_none, answers_some, is_ready_told}
use Rattle.relay_work.proofs.Carried.{ended_same, err_again, no_taps_fault}
use Rattle.relay_work.specs.Live.{live_of}
use Rattle.relay_work.specs.declared.turns.RelayEnded.TheVariants as ended
use Rattle.std.proofs.Common.{ap, arith, sym, ◌∙◌}
use Rattle.std.proofs.lemmas.Result.{err_from_is_err_and}
use Rattle.std.specs.Prelude.{Bool, Err}
use Rattle.worker_ports.specs.declared.wires.WireRefusal.{WireRefusal}
use Rattle.relay_work.proofs.turns.answer.Goals as goal

pub returns-in-Err-Failed-clause-answers : goal.returns-in-Err-Failed-clause-answers
returns-in-Err-Failed-clause-answers g c = answers_failed c.args.names.now (live_of c.args.relay.now (g.T.Wires.seen c.args.taps.now) (g.J.Sink.contents c.args.journal.now)) (g.T.Wires.seen c.next.new.self) c.in-Err-Failed.ensures.err

pub returns-in-Err-Failed-clause-taps_fault : goal.returns-in-Err-Failed-clause-taps_fault
returns-in-Err-Failed-clause-taps_fault g c = λ e. c.next.ensures.cause (c.in-Err-Failed.is ∙ ap (λ (x : WireRefusal). Err x) c.in-Err-Failed.field-0-is)

pub returns-in-Err-Failed-clause-journal_fault : goal.returns-in-Err-Failed-clause-journal_fault
returns-in-Err-Failed-clause-journal_fault g c = λ e. cc

pub returns-in-Err-Failed-clause-taps_rise : goal.returns-in-Err-Failed-clause-taps_rise
returns-in-Err-Failed-clause-taps_rise g c = c.next.ensures.no_fall

pub returns-in-Err-Failed-clause-journal_rises : goal.returns-in-Err-Failed-clause-journal_rises
returns-in-Err-Failed-clause-journal_rises g c = omega arith

pub returns-in-Err-NoMemory-clause-answers : goal.returns-in-Err-NoMemory-clause-answers
returns-in-Err-NoMemory-clause-answers g c = answers_memory c.args.names.now (live_of c.args.relay.now (g.T.Wires.seen c.args.taps.now) (g.J.Sink.contents c.args.journal.now)) (g.T.Wires.seen c.next.new.self) c.in-Err-NoMemory.ensures.err

pub returns-in-Err-NoMemory-clause-taps_fault : goal.returns-in-Err-NoMemory-clause-taps_fault
returns-in-Err-NoMemory-clause-taps_fault g c = λ e. cc

pub returns-in-Err-NoMemory-clause-journal_fault : goal.returns-in-Err-NoMemory-clause-journal_fault
returns-in-Err-NoMemory-clause-journal_fault g c = λ e. cc

pub returns-in-Err-NoMemory-clause-taps_rise : goal.returns-in-Err-NoMemory-clause-taps_rise
returns-in-Err-NoMemory-clause-taps_rise g c = c.next.ensures.no_fall

pub returns-in-Err-NoMemory-clause-journal_rises : goal.returns-in-Err-NoMemory-clause-journal_rises
returns-in-Err-NoMemory-clause-journal_rises g c = omega arith

pub returns-in_default-clause-answers : goal.returns-in_default-clause-answers
returns-in_default-clause-answers g c = answers_none c.args.names.now (live_of c.args.relay.now (g.T.Wires.seen c.args.taps.now) (g.J.Sink.contents c.args.journal.now)) c.in-Ok.wired (g.T.Wires.seen c.next.new.self) c.is_stop-stops.result
    c.in-Ok.ensures.ok c.is_stop-stops.ensures (sym c.event_of.ensures.is ∙ c.in_default.is)

pub returns-in_default-clause-taps_fault : goal.returns-in_default-clause-taps_fault
returns-in_default-clause-taps_fault g c = λ e. cc

pub returns-in_default-clause-journal_fault : goal.returns-in_default-clause-journal_fault
returns-in_default-clause-journal_fault g c = λ e. cc

pub returns-in_default-clause-taps_rise : goal.returns-in_default-clause-taps_rise
returns-in_default-clause-taps_rise g c = c.next.ensures.no_fall

pub returns-in_default-clause-journal_rises : goal.returns-in_default-clause-journal_rises
returns-in_default-clause-journal_rises g c = omega arith

pub carry_out-requires : goal.carry_out-requires
carry_out-requires g c = is_ready_told c.args.names.now (live_of c.args.relay.now (g.T.Wires.seen c.args.taps.now) (g.J.Sink.contents c.args.journal.now)) c.in-Ok.wired (g.T.Wires.seen c.next.new.self) c.in-Ok.ensures.ok c.in-Some.conn c.in-Some.event
    (sym c.event_of.ensures.is ∙ c.in-Some.is) c.in-Some.ensures.fits c.requires

pub returns-in_err-carry_out-clause-answers : goal.returns-in_err-carry_out-clause-answers
returns-in_err-carry_out-clause-answers g c =
    let p = err_from_is_err_and c.from_residual.result c.from_residual.ensures.1 in
    rw (p.1, p.2) (answers_cut c.args.names.now (live_of c.args.relay.now (g.T.Wires.seen c.args.taps.now) (g.J.Sink.contents c.args.journal.now)) c.in-Ok.wired (g.T.Wires.seen c.next.new.self) c.in-Ok.ensures.ok c.in-Some.conn c.in-Some.event
    (sym c.event_of.ensures.is ∙ c.in-Some.is) c.in-Some.ensures.fits
    (live_of c.carry_out.new.relay (g.T.Wires.seen c.carry_out.new.taps) (g.J.Sink.contents c.carry_out.new.journal)) _ c.in_err-carry_out.ensures.carries)

pub returns-in_err-carry_out-clause-taps_fault : goal.returns-in_err-carry_out-clause-taps_fault
returns-in_err-carry_out-clause-taps_fault g c =
    let p = err_from_is_err_and c.from_residual.result c.from_residual.ensures.1 in
    rw (p.1, p.2) (λ q. absurd (no_taps_fault c.args.names.now c.in-Some.conn c.in-Some.event (live_of c.args.relay.now (g.T.Wires.seen c.next.new.self) (g.J.Sink.contents c.args.journal.now))
    (live_of c.carry_out.new.relay (g.T.Wires.seen c.carry_out.new.taps) (g.J.Sink.contents c.carry_out.new.journal)) _ c.in_err-carry_out.ensures.carries
    (is_ready_told c.args.names.now (live_of c.args.relay.now (g.T.Wires.seen c.args.taps.now) (g.J.Sink.contents c.args.journal.now)) c.in-Ok.wired (g.T.Wires.seen c.next.new.self) c.in-Ok.ensures.ok c.in-Some.conn c.in-Some.event
    (sym c.event_of.ensures.is ∙ c.in-Some.is) c.in-Some.ensures.fits c.requires) (ended_same {T = Bool} _ ended.TapsFault q)))

pub returns-in_err-carry_out-clause-journal_fault : goal.returns-in_err-carry_out-clause-journal_fault
returns-in_err-carry_out-clause-journal_fault g c =
    let p = err_from_is_err_and c.from_residual.result c.from_residual.ensures.1 in
    rw (p.1, p.2) (λ q. c.in_err-carry_out.ensures.journal_fault (err_again {T = Bool} {U = Unit {0}} _ ended.JournalFault q))

pub returns-in_err-carry_out-clause-taps_rise : goal.returns-in_err-carry_out-clause-taps_rise
returns-in_err-carry_out-clause-taps_rise g c = omega (arith, c.next.ensures.no_fall, c.carry_out.ensures.taps_rise)

pub returns-in_err-carry_out-clause-journal_rises : goal.returns-in_err-carry_out-clause-journal_rises
returns-in_err-carry_out-clause-journal_rises g c = c.carry_out.ensures.journal_rises

pub returns-clause-answers : goal.returns-clause-answers
returns-clause-answers g c = answers_some c.args.names.now (live_of c.args.relay.now (g.T.Wires.seen c.args.taps.now) (g.J.Sink.contents c.args.journal.now)) c.in-Ok.wired (g.T.Wires.seen c.next.new.self) c.in-Ok.ensures.ok c.in-Some.conn c.in-Some.event
    (sym c.event_of.ensures.is ∙ c.in-Some.is) c.in-Some.ensures.fits
    (live_of c.carry_out.new.relay (g.T.Wires.seen c.carry_out.new.taps) (g.J.Sink.contents c.carry_out.new.journal)) c.is_stop-stops.result c.is_stop-stops.ensures c.in_ok-carry_out.ensures.carries

pub returns-clause-taps_fault : goal.returns-clause-taps_fault
returns-clause-taps_fault g c = λ e. cc

pub returns-clause-journal_fault : goal.returns-clause-journal_fault
returns-clause-journal_fault g c = λ e. cc

pub returns-clause-taps_rise : goal.returns-clause-taps_rise
returns-clause-taps_rise g c = omega (arith, c.next.ensures.no_fall, c.carry_out.ensures.taps_rise)

pub returns-clause-journal_rises : goal.returns-clause-journal_rises
returns-clause-journal_rises g c = c.carry_out.ensures.journal_rises
