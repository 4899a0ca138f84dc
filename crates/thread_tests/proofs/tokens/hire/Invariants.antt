use Rattle.std.proofs.Common.{All, vec_len}
use Rattle.shared_tokens.specs.Seats.{IsSeatOf, seats_in}
use Rattle.thread_tests.proofs.tokens.hire.Given as goal

abbrev pub invariant-loop-seat : goal.invariant-loop-seat
invariant-loop-seat l = record {
  seats : All (IsSeatOf l.bucket) (seats_in l.seats);
  workers : All (λ w. IsSeatOf l.bucket w.seat) l.workers.items;
}

abbrev pub decreases-loop-seat : goal.decreases-loop-seat
decreases-loop-seat l = vec_len l.seats.seats
