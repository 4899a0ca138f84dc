-- What is newer is obeyed.
use Rattle.std.proofs.Common.{arith, refl}
use Rattle.shared_state.specs.PermitSeats.{view}
use Rattle.worker_loop.proofs.Carrying.{is_numbered, none_obeyed, one_obeyed}
use Rattle.worker_loop.proofs.Keeping.{keeps_same, rises_ok}
use Rattle.worker_loop.specs.Places.{place_of}
use Rattle.worker_loop.proofs.turns.obey.Goals as goal

pub returns-in_default-clause-carries : goal.returns-in_default-clause-carries
returns-in_default-clause-carries g c = none_obeyed c.args.names.now c.args.core.now.kind (place_of (g.J.Sink.contents c.args.journal.now) (g.J.Journal.told c.args.journal.now) (g.W.Wires.seen c.args.wires.now) c.args.held.now (view c.args.seat.now)) c.args.newer c.in_default.is c.requires.core

pub returns-in_default-clause-keeps : goal.returns-in_default-clause-keeps
returns-in_default-clause-keeps g c = keeps_same c.args.permits.now (g.W.Wires.seen c.args.wires.now) (g.W.Wires.seen c.args.wires.now) c.args.held.now c.args.seat.now c.requires.holds refl

pub returns-in_default-clause-rises : goal.returns-in_default-clause-rises
returns-in_default-clause-rises g c = rises_ok tt (g.W.Wires.faults c.args.wires.now) (g.W.Wires.faults c.args.wires.now) (g.J.Sink.faults c.args.journal.now) (g.J.Sink.faults c.args.journal.now) (omega arith) (omega arith)

pub carry_out-requires-clause-core : goal.carry_out-requires-clause-core
carry_out-requires-clause-core g c = c.requires.core

pub carry_out-requires-clause-event : goal.carry_out-requires-clause-event
carry_out-requires-clause-event g c = is_numbered c.args.newer c.in-Some.snapshot c.in-Some.is c.requires.version

pub carry_out-requires-clause-holds : goal.carry_out-requires-clause-holds
carry_out-requires-clause-holds g c = c.requires.holds

pub returns-clause-carries : goal.returns-clause-carries
returns-clause-carries g c =
    one_obeyed c.args.newer c.in-Some.snapshot c.in-Some.is c.args.names.now c.args.core.now.kind c.carry_out.new.core.kind (place_of (g.J.Sink.contents c.args.journal.now) (g.J.Journal.told c.args.journal.now) (g.W.Wires.seen c.args.wires.now) c.args.held.now (view c.args.seat.now)) (place_of (g.J.Sink.contents c.carry_out.new.journal) (g.J.Journal.told c.carry_out.new.journal) (g.W.Wires.seen c.carry_out.new.wires) c.carry_out.new.held (view c.carry_out.new.seat)) c.carry_out.result c.carry_out.ensures.carries

pub returns-clause-keeps : goal.returns-clause-keeps
returns-clause-keeps g c = c.carry_out.ensures.keeps

pub returns-clause-rises : goal.returns-clause-rises
returns-clause-rises g c = c.carry_out.ensures.rises
