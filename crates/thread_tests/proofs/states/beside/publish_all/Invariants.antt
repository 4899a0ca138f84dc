use Rattle.std.proofs.Common.{◌≡◌}
use Rattle.shared_state.specs.States.{IsSame}
use Rattle.thread_tests.proofs.states.beside.publish_all.Given as goal

abbrev pub invariant-loop-version : goal.invariant-loop-version
invariant-loop-version g l = record {
  same : IsSame l.fn.publisher l.publisher;
  last : l.last.seat.table_id ≡ l.fn.publisher.seat.table_id;
}
