use Rattle.std.proofs.Common.{◌≡◌}
use Rattle.thread_tests.proofs.states.beside.watch.Given as goal

abbrev pub invariant-loop : goal.invariant-loop
invariant-loop g l = l.follower.seat.table_id ≡ l.fn.follower.seat.table_id
