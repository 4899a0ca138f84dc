use Rattle.shared_state.specs.PermitSeats.{IsSeatOf}
use Rattle.thread_tests.proofs.states.threads.enter_and_leave.Given as goal

abbrev pub invariant-loop : goal.invariant-loop
invariant-loop l = IsSeatOf l.permits l.seat
