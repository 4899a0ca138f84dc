use Rattle.shared_state.specs.PermitSeats.{IsSeatOf, view}
use Rattle.std.proofs.Common.{length, vec_len, ◌≡◌, ◌≤◌}
use Rattle.worker_parts.specs.Held.{with_fewer}
use Rattle.worker_parts.proofs.held_permits.leave_all.Given as goal

abbrev pub invariant-loop-permit : goal.invariant-loop-permit
invariant-loop-permit l = record {
  seat : IsSeatOf l.permits l.seat;
  given : length l.kept.items ≤ (view l.seat).held;
  most : length l.kept.items ≤ length l.initial.kept.items;
  left : view l.seat ≡ with_fewer (length l.initial.kept.items) (length l.kept.items) (view l.initial.seat);
}

abbrev pub decreases-loop-permit : goal.decreases-loop-permit
decreases-loop-permit l = vec_len l.kept
