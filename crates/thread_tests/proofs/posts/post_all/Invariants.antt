use Rattle.post_queue.specs.Clauses.{IsPosterOf}
use Rattle.thread_tests.proofs.posts.post_all.Given as goal

abbrev pub invariant-loop-exchange : goal.invariant-loop-exchange
invariant-loop-exchange g l = IsPosterOf l.posts l.pass
