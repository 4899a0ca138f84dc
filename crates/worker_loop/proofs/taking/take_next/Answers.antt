-- What came next is taken up.
use Rattle.shared_state.specs.PermitSeats.{view}
use Rattle.std.proofs.Common.{ap, arith, refl, ◌∙◌}
use Rattle.std.proofs.lemmas.Result.{err_from_is_err_and}
use Rattle.std.specs.Prelude.{Bool, Err}
use Rattle.worker_loop.proofs.Keeping.{keeps_given, keeps_more, keeps_same, rises_err, rises_memory, rises_more, rises_ok, rises_wires}
use Rattle.worker_loop.proofs.Receiving.{cut_next, may_take_up, next_failed, next_memory, taken_next}
use Rattle.worker_loop.specs.Places.{place_of}
use Rattle.worker_ports.specs.declared.wires.WireRefusal.{WireRefusal}
use Rattle.worker_loop.proofs.taking.take_next.Goals as goal

pub returns-in-Err-Failed-clause-takes : goal.returns-in-Err-Failed-clause-takes
returns-in-Err-Failed-clause-takes g c = next_failed c.args.names.now c.args.core.now.kind (g.J.Sink.contents c.args.journal.now) (g.J.Journal.told c.args.journal.now) (g.W.Wires.seen c.args.wires.now) (g.W.Wires.seen c.next.new.self) c.args.held.now (view c.args.seat.now) c.in-Err-Failed.ensures.err

pub returns-in-Err-Failed-clause-keeps : goal.returns-in-Err-Failed-clause-keeps
returns-in-Err-Failed-clause-keeps g c = keeps_same c.args.permits.now (g.W.Wires.seen c.args.wires.now) (g.W.Wires.seen c.next.new.self) c.args.held.now c.args.seat.now c.requires.holds c.in-Err-Failed.ensures.err

pub returns-in-Err-Failed-clause-rises : goal.returns-in-Err-Failed-clause-rises
returns-in-Err-Failed-clause-rises g c =
    rises_wires (g.W.Wires.faults c.args.wires.now) (g.W.Wires.faults c.next.new.self) (g.J.Sink.faults c.args.journal.now) (g.J.Sink.faults c.args.journal.now) c.next.ensures.no_fall (omega arith) (c.next.ensures.cause (c.in-Err-Failed.is ∙ ap (λ (x : WireRefusal). Err x) c.in-Err-Failed.field-0-is))

pub returns-in-Err-NoMemory-clause-takes : goal.returns-in-Err-NoMemory-clause-takes
returns-in-Err-NoMemory-clause-takes g c = next_memory c.args.names.now c.args.core.now.kind (g.J.Sink.contents c.args.journal.now) (g.J.Journal.told c.args.journal.now) (g.W.Wires.seen c.args.wires.now) (g.W.Wires.seen c.next.new.self) c.args.held.now (view c.args.seat.now) c.in-Err-NoMemory.ensures.err

pub returns-in-Err-NoMemory-clause-keeps : goal.returns-in-Err-NoMemory-clause-keeps
returns-in-Err-NoMemory-clause-keeps g c = keeps_same c.args.permits.now (g.W.Wires.seen c.args.wires.now) (g.W.Wires.seen c.next.new.self) c.args.held.now c.args.seat.now c.requires.holds c.in-Err-NoMemory.ensures.err

pub returns-in-Err-NoMemory-clause-rises : goal.returns-in-Err-NoMemory-clause-rises
returns-in-Err-NoMemory-clause-rises g c = rises_memory (g.W.Wires.faults c.args.wires.now) (g.W.Wires.faults c.next.new.self) (g.J.Sink.faults c.args.journal.now) (g.J.Sink.faults c.args.journal.now) c.next.ensures.no_fall (omega arith)

pub take_up-requires-clause-core : goal.take_up-requires-clause-core
take_up-requires-clause-core g c = c.requires.core

pub take_up-requires-clause-holds : goal.take_up-requires-clause-holds
take_up-requires-clause-holds g c = c.requires.holds

pub take_up-requires-clause-given : goal.take_up-requires-clause-given
take_up-requires-clause-given g c = may_take_up c.args.names.now (g.W.Wires.seen c.args.wires.now) (g.W.Wires.seen c.next.new.self) c.args.held.now c.in-Ok.given c.requires.names c.requires.below c.in-Ok.ensures.ok

pub returns-in_err-take_up-clause-takes : goal.returns-in_err-take_up-clause-takes
returns-in_err-take_up-clause-takes g c =
    let p = err_from_is_err_and c.from_residual.result c.from_residual.ensures.1 in
    rw (p.1, p.2) (cut_next c.args.names.now c.args.core.now.kind (g.J.Sink.contents c.args.journal.now) (g.J.Journal.told c.args.journal.now) (g.W.Wires.seen c.args.wires.now) (g.W.Wires.seen c.next.new.self) c.args.held.now (view c.args.seat.now) c.in-Ok.given c.in-Ok.ensures.ok c.take_up.new.core.kind (place_of (g.J.Sink.contents c.take_up.new.journal) (g.J.Journal.told c.take_up.new.journal) (g.W.Wires.seen c.take_up.new.wires) c.take_up.new.held (view c.take_up.new.seat)) _ c.in_err-take_up.ensures.takes)

pub returns-in_err-take_up-clause-keeps : goal.returns-in_err-take_up-clause-keeps
returns-in_err-take_up-clause-keeps g c =
    keeps_more c.args.permits.now (g.W.Wires.seen c.args.wires.now) (g.W.Wires.seen c.next.new.self) (g.W.Wires.seen c.take_up.new.wires) c.args.held.now c.args.held.now c.take_up.new.held (view c.args.seat.now) c.args.seat.now c.take_up.new.seat (keeps_given c.args.permits.now (g.W.Wires.seen c.args.wires.now) (g.W.Wires.seen c.next.new.self) c.in-Ok.given c.args.held.now c.args.seat.now c.requires.holds c.in-Ok.ensures.ok) c.take_up.ensures.keeps

pub returns-in_err-take_up-clause-rises : goal.returns-in_err-take_up-clause-rises
returns-in_err-take_up-clause-rises g c =
    let p = err_from_is_err_and c.from_residual.result c.from_residual.ensures.1 in
    rw (p.1, p.2) (rises_err {T = Unit {0}} {U = Bool} _ (g.W.Wires.faults c.args.wires.now) (g.W.Wires.faults c.take_up.new.wires) (g.J.Sink.faults c.args.journal.now) (g.J.Sink.faults c.take_up.new.journal) (rises_more _ (g.W.Wires.faults c.args.wires.now) (g.W.Wires.faults c.next.new.self) (g.W.Wires.faults c.take_up.new.wires) (g.J.Sink.faults c.args.journal.now) (g.J.Sink.faults c.args.journal.now) (g.J.Sink.faults c.take_up.new.journal) c.next.ensures.no_fall (omega arith) c.in_err-take_up.ensures.rises))

pub returns-clause-takes : goal.returns-clause-takes
returns-clause-takes g c =
    taken_next c.args.names.now c.args.core.now.kind (g.J.Sink.contents c.args.journal.now) (g.J.Journal.told c.args.journal.now) (g.W.Wires.seen c.args.wires.now) (g.W.Wires.seen c.next.new.self) c.args.held.now (view c.args.seat.now) c.in-Ok.given c.in-Ok.ensures.ok c.take_up.new.core.kind (place_of (g.J.Sink.contents c.take_up.new.journal) (g.J.Journal.told c.take_up.new.journal) (g.W.Wires.seen c.take_up.new.wires) c.take_up.new.held (view c.take_up.new.seat)) c.is_stop-stops.result c.is_stop-stops.ensures c.in_ok-take_up.ensures.takes

pub returns-clause-keeps : goal.returns-clause-keeps
returns-clause-keeps g c =
    keeps_more c.args.permits.now (g.W.Wires.seen c.args.wires.now) (g.W.Wires.seen c.next.new.self) (g.W.Wires.seen c.take_up.new.wires) c.args.held.now c.args.held.now c.take_up.new.held (view c.args.seat.now) c.args.seat.now c.take_up.new.seat (keeps_given c.args.permits.now (g.W.Wires.seen c.args.wires.now) (g.W.Wires.seen c.next.new.self) c.in-Ok.given c.args.held.now c.args.seat.now c.requires.holds c.in-Ok.ensures.ok) c.take_up.ensures.keeps

pub returns-clause-rises : goal.returns-clause-rises
returns-clause-rises g c =
    rises_ok c.is_stop-stops.result (g.W.Wires.faults c.args.wires.now) (g.W.Wires.faults c.take_up.new.wires) (g.J.Sink.faults c.args.journal.now) (g.J.Sink.faults c.take_up.new.journal) (omega (arith, c.next.ensures.no_fall, c.take_up.ensures.rises.at_wires)) c.take_up.ensures.rises.at_journal
