use Rattle.shared_tokens.specs.Seats.{IsPutSeatOf, IsSeatOf}
use Rattle.thread_tests.proofs.tokens.play.Given as goal

abbrev pub invariant-loop-step : goal.invariant-loop-step
invariant-loop-step g l = IsPutSeatOf l.bucket l.put × IsSeatOf l.bucket l.seat
