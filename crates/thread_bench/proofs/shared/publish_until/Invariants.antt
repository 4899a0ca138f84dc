use Rattle.std.proofs.Common.{◌≡◌}
use Rattle.shared_state.specs.States.{resources_of}
use Rattle.thread_bench.proofs.shared.publish_until.Given as goal

abbrev pub invariant-loop : goal.invariant-loop
invariant-loop g l = resources_of l.publisher ≡ 2
