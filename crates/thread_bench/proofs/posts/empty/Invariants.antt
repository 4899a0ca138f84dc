use Rattle.post_queue.specs.Clauses.{IsRunnerOf}
use Rattle.thread_bench.proofs.posts.empty.Given as goal

abbrev pub invariant-loop : goal.invariant-loop
invariant-loop g l = IsRunnerOf l.posts l.runner
