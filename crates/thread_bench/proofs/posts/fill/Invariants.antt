use Rattle.post_queue.specs.Clauses.{IsPosterOf}
use Rattle.thread_bench.proofs.posts.fill.Given as goal

abbrev pub invariant-loop : goal.invariant-loop
invariant-loop g l = IsPosterOf l.posts l.pass
