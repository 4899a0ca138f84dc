-- An event is dispatched, and what is done with by it is settled.
use Rattle.std.proofs.Common.{arith, refl}
use Rattle.std.proofs.lemmas.Result.{err_from_is_err_and}
use Rattle.shared_state.specs.PermitSeats.{view}
use Rattle.worker_loop.proofs.Dispatching.{carried_whole, cut_dispatched, cut_noted, not_wires}
use Rattle.worker_loop.proofs.Keeping.{keeps_same, rises_event, rises_memory, rises_ok}
use Rattle.worker_loop.proofs.settling.carry_out.Goals as goal

pub dispatch-requires-clause-core : goal.dispatch-requires-clause-core
dispatch-requires-clause-core g c = c.requires.core

pub dispatch-requires-clause-event : goal.dispatch-requires-clause-event
dispatch-requires-clause-event g c = c.requires.event

pub returns-in_err-dispatch-clause-carries : goal.returns-in_err-dispatch-clause-carries
returns-in_err-dispatch-clause-carries g c =
    let p = err_from_is_err_and c.from_residual.result c.from_residual.ensures.1 in
    rw (p.1, p.2) (cut_dispatched c.args.names.now c.args.event.now c.args.core.now.kind c.dispatch.new.core.kind c.dispatch.new.pad.notes (g.J.Sink.contents c.args.journal.now) (g.J.Sink.contents c.dispatch.new.journal)
    (g.J.Journal.told c.args.journal.now) (g.J.Journal.told c.dispatch.new.journal) (g.W.Wires.seen c.args.wires.now) c.args.held.now (view c.args.seat.now) _ c.in_err-dispatch.ensures.dispatches c.dispatch.ensures.told)

pub returns-in_err-dispatch-clause-keeps : goal.returns-in_err-dispatch-clause-keeps
returns-in_err-dispatch-clause-keeps g c = keeps_same c.args.permits.now (g.W.Wires.seen c.args.wires.now) (g.W.Wires.seen c.args.wires.now) c.args.held.now c.args.seat.now c.requires.holds refl

pub returns-in_err-dispatch-clause-rises : goal.returns-in_err-dispatch-clause-rises
returns-in_err-dispatch-clause-rises g c =
    let p = err_from_is_err_and c.from_residual.result c.from_residual.ensures.1 in
    rw (p.1, p.2) (rises_event _ (g.W.Wires.faults c.args.wires.now) (g.W.Wires.faults c.args.wires.now) (g.J.Sink.faults c.args.journal.now) (g.J.Sink.faults c.dispatch.new.journal)
    (not_wires c.args.names.now c.args.event.now c.args.core.now.kind c.dispatch.new.core.kind c.dispatch.new.pad.notes (g.J.Sink.contents c.args.journal.now) (g.J.Sink.contents c.dispatch.new.journal) _ c.in_err-dispatch.ensures.dispatches)
    (omega arith) c.dispatch.ensures.no_fall c.in_err-dispatch.ensures.cause)

pub settle-requires : goal.settle-requires
settle-requires g c = c.requires.holds

pub returns-in-Ok-clause-carries : goal.returns-in-Ok-clause-carries
returns-in-Ok-clause-carries g c =
    let d = c.in_ok-dispatch.ensures.dispatches in
    carried_whole c.args.names.now c.args.event.now c.args.core.now.kind c.dispatch.new.core.kind c.dispatch.new.pad.notes (g.J.Sink.contents c.args.journal.now) (g.J.Sink.contents c.dispatch.new.journal)
    (g.J.Journal.told c.args.journal.now) (g.J.Journal.told c.dispatch.new.journal) (g.W.Wires.seen c.args.wires.now) (g.W.Wires.seen c.settle.new.wires) c.args.held.now c.settle.new.held (view c.args.seat.now) (view c.settle.new.seat)
    d.0 d.1 c.dispatch.ensures.told c.settle.ensures.ends c.requires.core (g.J.Sink.contents c.noted.new.self) (g.J.Journal.told c.noted.new.self) c.noted.ensures.contents c.in-Ok.ensures.ok

pub returns-in-Ok-clause-keeps : goal.returns-in-Ok-clause-keeps
returns-in-Ok-clause-keeps g c = c.settle.ensures.keeps

pub returns-in-Ok-clause-rises : goal.returns-in-Ok-clause-rises
returns-in-Ok-clause-rises g c =
    rises_ok tt (g.W.Wires.faults c.args.wires.now) (g.W.Wires.faults c.settle.new.wires) (g.J.Sink.faults c.args.journal.now) (g.J.Sink.faults c.noted.new.self) c.settle.ensures.no_fall
    (omega (arith, c.dispatch.ensures.no_fall, c.noted.ensures.faults))

pub returns-in-Err-clause-carries : goal.returns-in-Err-clause-carries
returns-in-Err-clause-carries g c =
    let d = c.in_ok-dispatch.ensures.dispatches in
    cut_noted c.args.names.now c.args.event.now c.args.core.now.kind c.dispatch.new.core.kind c.dispatch.new.pad.notes (g.J.Sink.contents c.args.journal.now) (g.J.Sink.contents c.dispatch.new.journal)
    (g.J.Journal.told c.args.journal.now) (g.J.Journal.told c.dispatch.new.journal) (g.W.Wires.seen c.args.wires.now) (g.W.Wires.seen c.settle.new.wires) c.args.held.now c.settle.new.held (view c.args.seat.now) (view c.settle.new.seat)
    d.0 d.1 c.dispatch.ensures.told c.settle.ensures.ends (g.J.Sink.contents c.noted.new.self) (g.J.Journal.told c.noted.new.self) c.noted.ensures.contents c.in-Err.ensures.err.0

pub returns-in-Err-clause-keeps : goal.returns-in-Err-clause-keeps
returns-in-Err-clause-keeps g c = c.settle.ensures.keeps

pub returns-in-Err-clause-rises : goal.returns-in-Err-clause-rises
returns-in-Err-clause-rises g c =
    rises_memory (g.W.Wires.faults c.args.wires.now) (g.W.Wires.faults c.settle.new.wires) (g.J.Sink.faults c.args.journal.now) (g.J.Sink.faults c.noted.new.self) c.settle.ensures.no_fall
    (omega (arith, c.dispatch.ensures.no_fall, c.noted.ensures.faults))
