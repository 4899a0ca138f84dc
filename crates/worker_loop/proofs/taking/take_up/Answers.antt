-- By what was given.
use Rattle.flow_notes.specs.declared.events.Event.TheVariants as event
use Rattle.shared_state.specs.PermitSeats.{view}
use Rattle.std.proofs.Common.{arith, refl, subst, sym}
use Rattle.worker_loop.proofs.Keeping.{keeps_left, keeps_more, keeps_same, rises_ok}
use Rattle.worker_loop.proofs.Closing.{left_permitted}
use Rattle.worker_loop.proofs.Receiving.{given_as, idle_as, joined_as, lost_as, may_as, read_as, stop_as}
use Rattle.std.specs.Prelude.{Ok}
use Rattle.worker_loop.specs.Places.{place_of}
use Rattle.worker_ports.specs.declared.wires.Wired.TheVariants as wired
use Rattle.worker_loop.proofs.taking.take_up.Goals as goal

pub let_in-requires-clause-core : goal.let_in-requires-clause-core
let_in-requires-clause-core g c = c.requires.core

pub let_in-requires-clause-holds : goal.let_in-requires-clause-holds
let_in-requires-clause-holds g c = c.requires.holds

pub let_in-requires-clause-none : goal.let_in-requires-clause-none
let_in-requires-clause-none g c = (may_as c.args.names.now (g.W.Wires.seen c.args.wires.now) c.args.held.now c.args.given (wired.Accept c.in-Accept.conn) c.in-Accept.is c.requires.given).0

pub let_in-requires-clause-came : goal.let_in-requires-clause-came
let_in-requires-clause-came g c = (may_as c.args.names.now (g.W.Wires.seen c.args.wires.now) c.args.held.now c.args.given (wired.Accept c.in-Accept.conn) c.in-Accept.is c.requires.given).1

pub returns-in-Accept-clause-takes : goal.returns-in-Accept-clause-takes
returns-in-Accept-clause-takes g c =
    given_as c.args.names.now c.args.given (wired.Accept c.in-Accept.conn) c.args.core.now.kind c.let_in.new.core.kind (place_of (g.J.Sink.contents c.args.journal.now) (g.J.Journal.told c.args.journal.now) (g.W.Wires.seen c.args.wires.now) c.args.held.now (view c.args.seat.now)) (place_of (g.J.Sink.contents c.let_in.new.journal) (g.J.Journal.told c.let_in.new.journal) (g.W.Wires.seen c.let_in.new.wires) c.let_in.new.held (view c.let_in.new.seat)) c.let_in.result c.in-Accept.is
    (c.let_in.ensures.takes)

pub returns-in-Accept-clause-keeps : goal.returns-in-Accept-clause-keeps
returns-in-Accept-clause-keeps g c = c.let_in.ensures.keeps

pub returns-in-Accept-clause-rises : goal.returns-in-Accept-clause-rises
returns-in-Accept-clause-rises g c = c.let_in.ensures.rises

pub carry_out-requires-clause-core : goal.carry_out-requires-clause-core
carry_out-requires-clause-core g c = c.requires.core

pub carry_out-requires-clause-event : goal.carry_out-requires-clause-event
carry_out-requires-clause-event g c = (may_as c.args.names.now (g.W.Wires.seen c.args.wires.now) c.args.held.now c.args.given (wired.Join c.in-Join.conn c.in-Join.cluster) c.in-Join.is c.requires.given)

pub carry_out-requires-clause-holds : goal.carry_out-requires-clause-holds
carry_out-requires-clause-holds g c = c.requires.holds

pub returns-in-Join-clause-takes : goal.returns-in-Join-clause-takes
returns-in-Join-clause-takes g c =
    given_as c.args.names.now c.args.given (wired.Join c.in-Join.conn c.in-Join.cluster) c.args.core.now.kind c.carry_out.new.core.kind (place_of (g.J.Sink.contents c.args.journal.now) (g.J.Journal.told c.args.journal.now) (g.W.Wires.seen c.args.wires.now) c.args.held.now (view c.args.seat.now)) (place_of (g.J.Sink.contents c.carry_out.new.journal) (g.J.Journal.told c.carry_out.new.journal) (g.W.Wires.seen c.carry_out.new.wires) c.carry_out.new.held (view c.carry_out.new.seat)) c.carry_out.result c.in-Join.is
    (joined_as c.args.names.now c.in-Join.conn c.in-Join.cluster c.args.core.now.kind c.carry_out.new.core.kind (place_of (g.J.Sink.contents c.args.journal.now) (g.J.Journal.told c.args.journal.now) (g.W.Wires.seen c.args.wires.now) c.args.held.now (view c.args.seat.now)) (place_of (g.J.Sink.contents c.carry_out.new.journal) (g.J.Journal.told c.carry_out.new.journal) (g.W.Wires.seen c.carry_out.new.wires) c.carry_out.new.held (view c.carry_out.new.seat)) c.carry_out.result c.carry_out.ensures.carries)

pub returns-in-Join-clause-keeps : goal.returns-in-Join-clause-keeps
returns-in-Join-clause-keeps g c = c.carry_out.ensures.keeps

pub returns-in-Join-clause-rises : goal.returns-in-Join-clause-rises
returns-in-Join-clause-rises g c = c.carry_out.ensures.rises

pub carry_out-requires-in-Read-clause-core : goal.carry_out-requires-in-Read-clause-core
carry_out-requires-in-Read-clause-core g c = c.requires.core

pub carry_out-requires-in-Read-clause-event : goal.carry_out-requires-in-Read-clause-event
carry_out-requires-in-Read-clause-event g c = (may_as c.args.names.now (g.W.Wires.seen c.args.wires.now) c.args.held.now c.args.given (wired.Read c.in-Read.conn c.in-Read.octets) c.in-Read.is c.requires.given)

pub carry_out-requires-in-Read-clause-holds : goal.carry_out-requires-in-Read-clause-holds
carry_out-requires-in-Read-clause-holds g c = c.requires.holds

pub returns-in-Read-clause-takes : goal.returns-in-Read-clause-takes
returns-in-Read-clause-takes g c =
    given_as c.args.names.now c.args.given (wired.Read c.in-Read.conn c.in-Read.octets) c.args.core.now.kind c.carry_out-in-Read.new.core.kind (place_of (g.J.Sink.contents c.args.journal.now) (g.J.Journal.told c.args.journal.now) (g.W.Wires.seen c.args.wires.now) c.args.held.now (view c.args.seat.now)) (place_of (g.J.Sink.contents c.carry_out-in-Read.new.journal) (g.J.Journal.told c.carry_out-in-Read.new.journal) (g.W.Wires.seen c.carry_out-in-Read.new.wires) c.carry_out-in-Read.new.held (view c.carry_out-in-Read.new.seat)) c.carry_out-in-Read.result c.in-Read.is
    (read_as c.args.names.now c.in-Read.conn c.in-Read.octets c.args.core.now.kind c.carry_out-in-Read.new.core.kind (place_of (g.J.Sink.contents c.args.journal.now) (g.J.Journal.told c.args.journal.now) (g.W.Wires.seen c.args.wires.now) c.args.held.now (view c.args.seat.now)) (place_of (g.J.Sink.contents c.carry_out-in-Read.new.journal) (g.J.Journal.told c.carry_out-in-Read.new.journal) (g.W.Wires.seen c.carry_out-in-Read.new.wires) c.carry_out-in-Read.new.held (view c.carry_out-in-Read.new.seat)) c.carry_out-in-Read.result c.carry_out-in-Read.ensures.carries)

pub returns-in-Read-clause-keeps : goal.returns-in-Read-clause-keeps
returns-in-Read-clause-keeps g c = c.carry_out-in-Read.ensures.keeps

pub returns-in-Read-clause-rises : goal.returns-in-Read-clause-rises
returns-in-Read-clause-rises g c = c.carry_out-in-Read.ensures.rises

pub leave-requires-clause-seat : goal.leave-requires-clause-seat
leave-requires-clause-seat g c = c.requires.holds.is_seat

pub leave-requires-clause-given : goal.leave-requires-clause-given
leave-requires-clause-given g c = c.requires.holds.given

pub carry_out-requires-in-Lost-clause-core : goal.carry_out-requires-in-Lost-clause-core
carry_out-requires-in-Lost-clause-core g c = c.requires.core

pub carry_out-requires-in-Lost-clause-event : goal.carry_out-requires-in-Lost-clause-event
carry_out-requires-in-Lost-clause-event g c = tt

pub carry_out-requires-in-Lost-clause-holds : goal.carry_out-requires-in-Lost-clause-holds
carry_out-requires-in-Lost-clause-holds g c = record { is_seat = c.leave.ensures.seat; given = c.leave.ensures.given }

pub returns-in-Lost-clause-takes : goal.returns-in-Lost-clause-takes
returns-in-Lost-clause-takes g c =
    given_as c.args.names.now c.args.given (wired.Lost c.in-Lost.conn) c.args.core.now.kind c.carry_out-in-Lost.new.core.kind (place_of (g.J.Sink.contents c.args.journal.now) (g.J.Journal.told c.args.journal.now) (g.W.Wires.seen c.args.wires.now) c.args.held.now (view c.args.seat.now)) (place_of (g.J.Sink.contents c.carry_out-in-Lost.new.journal) (g.J.Journal.told c.carry_out-in-Lost.new.journal) (g.W.Wires.seen c.carry_out-in-Lost.new.wires) c.carry_out-in-Lost.new.held (view c.carry_out-in-Lost.new.seat)) c.carry_out-in-Lost.result c.in-Lost.is
    (lost_as c.args.names.now c.in-Lost.conn c.args.core.now.kind c.carry_out-in-Lost.new.core.kind (g.J.Sink.contents c.args.journal.now) (g.J.Journal.told c.args.journal.now) (g.W.Wires.seen c.args.wires.now) c.args.held.now c.leave.new.self (view c.args.seat.now) (view c.leave.new.seat) (place_of (g.J.Sink.contents c.carry_out-in-Lost.new.journal) (g.J.Journal.told c.carry_out-in-Lost.new.journal) (g.W.Wires.seen c.carry_out-in-Lost.new.wires) c.carry_out-in-Lost.new.held (view c.carry_out-in-Lost.new.seat)) c.carry_out-in-Lost.result c.leave.ensures.held c.leave.ensures.left c.carry_out-in-Lost.ensures.carries)

pub returns-in-Lost-clause-keeps : goal.returns-in-Lost-clause-keeps
returns-in-Lost-clause-keeps g c =
    keeps_more c.args.permits.now (g.W.Wires.seen c.args.wires.now) (g.W.Wires.seen c.args.wires.now) (g.W.Wires.seen c.carry_out-in-Lost.new.wires) c.args.held.now c.leave.new.self c.carry_out-in-Lost.new.held (view c.args.seat.now) c.leave.new.seat c.carry_out-in-Lost.new.seat
    (keeps_left c.args.permits.now (g.W.Wires.seen c.args.wires.now) c.args.held.now c.leave.new.self (view c.args.seat.now) c.leave.new.seat (record { is_seat = c.leave.ensures.seat; given = c.leave.ensures.given }) (left_permitted c.args.held.now c.leave.new.self (view c.args.seat.now) (view c.leave.new.seat) c.leave.ensures.balance c.leave.ensures.left) c.leave.ensures.others)
    c.carry_out-in-Lost.ensures.keeps

pub returns-in-Lost-clause-rises : goal.returns-in-Lost-clause-rises
returns-in-Lost-clause-rises g c = c.carry_out-in-Lost.ensures.rises

pub returns-in-Idle-clause-takes : goal.returns-in-Idle-clause-takes
returns-in-Idle-clause-takes g c = given_as c.args.names.now c.args.given wired.Idle c.args.core.now.kind c.args.core.now.kind (place_of (g.J.Sink.contents c.args.journal.now) (g.J.Journal.told c.args.journal.now) (g.W.Wires.seen c.args.wires.now) c.args.held.now (view c.args.seat.now)) (place_of (g.J.Sink.contents c.args.journal.now) (g.J.Journal.told c.args.journal.now) (g.W.Wires.seen c.args.wires.now) c.args.held.now (view c.args.seat.now)) (Ok (tt {0})) c.in-Idle.is (idle_as c.args.names.now c.args.core.now.kind (place_of (g.J.Sink.contents c.args.journal.now) (g.J.Journal.told c.args.journal.now) (g.W.Wires.seen c.args.wires.now) c.args.held.now (view c.args.seat.now)) c.requires.core)

pub returns-in-Idle-clause-keeps : goal.returns-in-Idle-clause-keeps
returns-in-Idle-clause-keeps g c = keeps_same c.args.permits.now (g.W.Wires.seen c.args.wires.now) (g.W.Wires.seen c.args.wires.now) c.args.held.now c.args.seat.now c.requires.holds refl

pub returns-in-Idle-clause-rises : goal.returns-in-Idle-clause-rises
returns-in-Idle-clause-rises g c = rises_ok tt (g.W.Wires.faults c.args.wires.now) (g.W.Wires.faults c.args.wires.now) (g.J.Sink.faults c.args.journal.now) (g.J.Sink.faults c.args.journal.now) (omega arith) (omega arith)

pub returns-in-Stop-clause-takes : goal.returns-in-Stop-clause-takes
returns-in-Stop-clause-takes g c = given_as c.args.names.now c.args.given wired.Stop c.args.core.now.kind c.args.core.now.kind (place_of (g.J.Sink.contents c.args.journal.now) (g.J.Journal.told c.args.journal.now) (g.W.Wires.seen c.args.wires.now) c.args.held.now (view c.args.seat.now)) (place_of (g.J.Sink.contents c.args.journal.now) (g.J.Journal.told c.args.journal.now) (g.W.Wires.seen c.args.wires.now) c.args.held.now (view c.args.seat.now)) (Ok (tt {0})) c.in-Stop.is (stop_as c.args.names.now c.args.core.now.kind (place_of (g.J.Sink.contents c.args.journal.now) (g.J.Journal.told c.args.journal.now) (g.W.Wires.seen c.args.wires.now) c.args.held.now (view c.args.seat.now)) c.requires.core)

pub returns-in-Stop-clause-keeps : goal.returns-in-Stop-clause-keeps
returns-in-Stop-clause-keeps g c = keeps_same c.args.permits.now (g.W.Wires.seen c.args.wires.now) (g.W.Wires.seen c.args.wires.now) c.args.held.now c.args.seat.now c.requires.holds refl

pub returns-in-Stop-clause-rises : goal.returns-in-Stop-clause-rises
returns-in-Stop-clause-rises g c = rises_ok tt (g.W.Wires.faults c.args.wires.now) (g.W.Wires.faults c.args.wires.now) (g.J.Sink.faults c.args.journal.now) (g.J.Sink.faults c.args.journal.now) (omega arith) (omega arith)
