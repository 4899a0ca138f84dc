use Rattle.shared_tokens.specs.Seats.{IsSeatOf}
use Rattle.thread_tests.proofs.tokens.take_often.Given as goal

abbrev pub invariant-loop : goal.invariant-loop
invariant-loop l = IsSeatOf l.bucket l.worker.seat
