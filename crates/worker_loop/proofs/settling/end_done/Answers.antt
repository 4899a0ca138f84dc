-- A connection that is done with is closed.
use Rattle.shared_state.specs.PermitSeats.{view}
use Rattle.std.proofs.Common.{arith, refl, sym, ◌∙◌}
use Rattle.worker_loop.proofs.Keeping.{keeps_closed, keeps_same}
use Rattle.worker_loop.proofs.Closing.{ended_one, left_one, left_permitted}
use Rattle.worker_loop.proofs.settling.end_done.Goals as goal

pub leave-requires-clause-seat : goal.leave-requires-clause-seat
leave-requires-clause-seat g c = c.requires.is_seat

pub leave-requires-clause-given : goal.leave-requires-clause-given
leave-requires-clause-given g c = c.requires.given

pub returns-then-is_done_with-clause-ends : goal.returns-then-is_done_with-clause-ends
returns-then-is_done_with-clause-ends g c =
    ended_one c.args.core.now.kind c.args.conn (g.W.Wires.seen c.args.wires.now) (g.W.Wires.seen c.close.new.self) c.args.held.now c.leave.new.self (view c.args.seat.now) (view c.leave.new.seat)
    (sym c.is_done_with.ensures ∙ c.if-is_done_with.true) c.close.ensures.closes c.leave.ensures.held c.leave.ensures.left

pub returns-then-is_done_with-clause-keeps : goal.returns-then-is_done_with-clause-keeps
returns-then-is_done_with-clause-keeps g c =
    keeps_closed c.args.permits.now c.args.conn (g.W.Wires.seen c.args.wires.now) (g.W.Wires.seen c.close.new.self) c.args.held.now c.leave.new.self (view c.args.seat.now) c.leave.new.seat
    (record { is_seat = c.leave.ensures.seat; given = c.leave.ensures.given })
    (left_permitted c.args.held.now c.leave.new.self (view c.args.seat.now) (view c.leave.new.seat) c.leave.ensures.balance c.leave.ensures.left) c.close.ensures.closes c.leave.ensures.others

pub returns-then-is_done_with-clause-no_fall : goal.returns-then-is_done_with-clause-no_fall
returns-then-is_done_with-clause-no_fall g c = c.close.ensures.no_fall

pub returns-else-is_done_with-clause-ends : goal.returns-else-is_done_with-clause-ends
returns-else-is_done_with-clause-ends g c = left_one c.args.core.now.kind c.args.conn (g.W.Wires.seen c.args.wires.now) c.args.held.now (view c.args.seat.now) (sym c.is_done_with.ensures ∙ c.if-is_done_with.false)

pub returns-else-is_done_with-clause-keeps : goal.returns-else-is_done_with-clause-keeps
returns-else-is_done_with-clause-keeps g c = keeps_same c.args.permits.now (g.W.Wires.seen c.args.wires.now) (g.W.Wires.seen c.args.wires.now) c.args.held.now c.args.seat.now c.requires refl

pub returns-else-is_done_with-clause-no_fall : goal.returns-else-is_done_with-clause-no_fall
returns-else-is_done_with-clause-no_fall g c = omega arith
