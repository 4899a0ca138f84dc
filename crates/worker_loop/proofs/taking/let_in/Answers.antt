-- A client's connection is taken, or closed.
use Rattle.flow_notes.specs.declared.events.Event.TheVariants as event
use Rattle.shared_state.specs.PermitSeats.{view}
use Rattle.std.proofs.Common.{ap, arith, refl}
use Rattle.std.proofs.lemmas.Result.{err_from_is_err_and}
use Rattle.std.specs.Prelude.{false, true}
use Rattle.worker_loop.proofs.Keeping.{keeps_asked, keeps_closed, keeps_more, none_left, rises_ok, rises_same}
use Rattle.worker_loop.proofs.Receiving.{admitted_as, cut_asking, let_in_as, turned_away}
use Rattle.worker_loop.specs.Places.{place_of}
use Rattle.worker_loop.proofs.taking.let_in.Goals as goal

pub admits-requires-clause-holds : goal.admits-requires-clause-holds
admits-requires-clause-holds g c = c.requires.holds

pub admits-requires-clause-none : goal.admits-requires-clause-none
admits-requires-clause-none g c = c.requires.none

pub carry_out-requires-clause-core : goal.carry_out-requires-clause-core
carry_out-requires-clause-core g c = c.requires.core

pub carry_out-requires-clause-event : goal.carry_out-requires-clause-event
carry_out-requires-clause-event g c = tt

pub carry_out-requires-clause-holds : goal.carry_out-requires-clause-holds
carry_out-requires-clause-holds g c = c.admits.ensures.holds

pub returns-clause-takes : goal.returns-clause-takes
returns-clause-takes g c =
    let_in_as c.args.names.now c.args.conn c.args.core.now.kind c.args.permits.now (g.J.Sink.contents c.args.journal.now) (g.J.Journal.told c.args.journal.now) (g.W.Wires.seen c.args.wires.now) c.args.held.now c.admits.new.held (view c.args.seat.now) (view c.admits.new.seat) c.carry_out.result c.carry_out.new.core.kind (place_of (g.J.Sink.contents c.carry_out.new.journal) (g.J.Journal.told c.carry_out.new.journal) (g.W.Wires.seen c.carry_out.new.wires) c.carry_out.new.held (view c.carry_out.new.seat)) (admitted_as c.args.core.now.kind c.args.permits.now c.args.conn (view c.args.seat.now) (view c.admits.new.seat) c.args.held.now c.admits.new.held c.in_ok-taken.taken true c.if-not-taken.false c.in_ok-taken.ensures.admits) c.carry_out.ensures.carries

pub returns-clause-keeps : goal.returns-clause-keeps
returns-clause-keeps g c =
    keeps_more c.args.permits.now (g.W.Wires.seen c.args.wires.now) (g.W.Wires.seen c.args.wires.now) (g.W.Wires.seen c.carry_out.new.wires) c.args.held.now c.admits.new.held c.carry_out.new.held (view c.args.seat.now) c.admits.new.seat c.carry_out.new.seat (keeps_asked c.args.permits.now c.args.conn (g.W.Wires.seen c.args.wires.now) c.args.held.now c.admits.new.held (view c.args.seat.now) c.admits.new.seat c.admits.ensures.holds c.admits.ensures.permitted c.requires.came c.admits.ensures.more) c.carry_out.ensures.keeps

pub returns-clause-rises : goal.returns-clause-rises
returns-clause-rises g c = c.carry_out.ensures.rises

pub returns-then-not-taken-clause-takes : goal.returns-then-not-taken-clause-takes
returns-then-not-taken-clause-takes g c =
    turned_away c.args.names.now c.args.conn c.args.core.now.kind c.args.permits.now (g.J.Sink.contents c.args.journal.now) (g.J.Journal.told c.args.journal.now) (g.W.Wires.seen c.args.wires.now) c.args.held.now c.admits.new.held (view c.args.seat.now) (view c.admits.new.seat) (g.W.Wires.seen c.close.new.self) c.requires.core c.close.ensures.closes (admitted_as c.args.core.now.kind c.args.permits.now c.args.conn (view c.args.seat.now) (view c.admits.new.seat) c.args.held.now c.admits.new.held c.in_ok-taken.taken false c.if-not-taken.true c.in_ok-taken.ensures.admits)

pub returns-then-not-taken-clause-keeps : goal.returns-then-not-taken-clause-keeps
returns-then-not-taken-clause-keeps g c =
    keeps_more c.args.permits.now (g.W.Wires.seen c.args.wires.now) (g.W.Wires.seen c.args.wires.now) (g.W.Wires.seen c.close.new.self) c.args.held.now c.admits.new.held c.admits.new.held (view c.args.seat.now) c.admits.new.seat c.admits.new.seat (keeps_asked c.args.permits.now c.args.conn (g.W.Wires.seen c.args.wires.now) c.args.held.now c.admits.new.held (view c.args.seat.now) c.admits.new.seat c.admits.ensures.holds c.admits.ensures.permitted c.requires.came c.admits.ensures.more)
    (keeps_closed c.args.permits.now c.args.conn (g.W.Wires.seen c.args.wires.now) (g.W.Wires.seen c.close.new.self) c.admits.new.held c.admits.new.held (view c.admits.new.seat) c.admits.new.seat c.admits.ensures.holds (none_left c.admits.new.held (view c.admits.new.seat)) c.close.ensures.closes (λ d there. there))

pub returns-then-not-taken-clause-rises : goal.returns-then-not-taken-clause-rises
returns-then-not-taken-clause-rises g c = rises_ok tt (g.W.Wires.faults c.args.wires.now) (g.W.Wires.faults c.close.new.self) (g.J.Sink.faults c.args.journal.now) (g.J.Sink.faults c.args.journal.now) c.close.ensures.no_fall (omega arith)

pub returns-in_err-taken-clause-takes : goal.returns-in_err-taken-clause-takes
returns-in_err-taken-clause-takes g c =
    let e = c.in_err-taken.ensures.err in
    let p = err_from_is_err_and c.from_residual.result c.from_residual.ensures.1 in
    rw (p.1, p.2) (cut_asking c.args.names.now c.args.conn c.args.core.now.kind c.args.permits.now (g.J.Sink.contents c.args.journal.now) (g.J.Journal.told c.args.journal.now) (g.W.Wires.seen c.args.wires.now) c.args.held.now c.admits.new.held (view c.args.seat.now) (view c.admits.new.seat) _ e.0 (ap view e.1) e.2)

pub returns-in_err-taken-clause-keeps : goal.returns-in_err-taken-clause-keeps
returns-in_err-taken-clause-keeps g c = keeps_asked c.args.permits.now c.args.conn (g.W.Wires.seen c.args.wires.now) c.args.held.now c.admits.new.held (view c.args.seat.now) c.admits.new.seat c.admits.ensures.holds c.admits.ensures.permitted c.requires.came c.admits.ensures.more

pub returns-in_err-taken-clause-rises : goal.returns-in_err-taken-clause-rises
returns-in_err-taken-clause-rises g c =
    let p = err_from_is_err_and c.from_residual.result c.from_residual.ensures.1 in
    rw (p.1, p.2) (rises_same {T = Unit {0}} _ (g.W.Wires.faults c.args.wires.now) (g.J.Sink.faults c.args.journal.now) c.in_err-taken.ensures.err.0)
