use Rattle.std.proofs.Common.{All}
use Rattle.shared_tokens.specs.Seats.{IsPutSeatOf, IsSeatOf}
use Rattle.thread_tests.proofs.tokens.settle_all.Given as goal

abbrev pub invariant-loop-seat : goal.invariant-loop-seat
invariant-loop-seat g l = record {
  put : IsPutSeatOf l.bucket l.put;
  workers : All (λ w. IsSeatOf l.bucket w.seat) l.workers.items;
}

abbrev pub decreases-loop-seat : goal.decreases-loop-seat
decreases-loop-seat g l = goal.left-loop-seat g l
