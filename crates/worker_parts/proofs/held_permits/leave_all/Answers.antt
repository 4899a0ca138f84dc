-- One permit after the other is left.
use Rattle.shared_state.specs.PermitSeats.{view}
use Rattle.std.proofs.Common.{arith, length, ◌+◌, ◌≡◌, ◌∙◌}
use Rattle.worker_parts.proofs.Leaving.{fewer_more, still_given}
use Rattle.worker_parts.proofs.held_permits.leave_all.Goals as goal

pub loop-permit-preserved : goal.loop-permit-preserved
loop-permit-preserved c =
    let i = c.loop-permit.invariant in
    let one : length c.pop.new.self.items + 1 ≡ length c.loop-permit.kept.items = omega (arith, c.in-Some.ensures.len) in
    let left = c.leave.ensures.left ∙ fewer_more (length c.args.kept.items) (length c.loop-permit.kept.items) (length c.pop.new.self.items) (view c.args.seat.now) (view c.loop-permit.seat) i.left one i.most in
    record { seat = c.leave.ensures.seat; given = still_given (length c.loop-permit.kept.items) (length c.pop.new.self.items) (view c.loop-permit.seat) (view c.leave.new.seat) c.leave.ensures.left one i.given; most = omega (arith, one, i.most); left = left }
