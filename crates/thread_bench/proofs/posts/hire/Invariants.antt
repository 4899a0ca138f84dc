use Rattle.std.proofs.Common.{All, vec_len}
use Rattle.post_queue.specs.Clauses.{IsPosterOf, passes_in}
use Rattle.thread_bench.proofs.posts.hire.Given as goal

abbrev pub invariant-loop-pass : goal.invariant-loop-pass
invariant-loop-pass l = record {
  passes : All (IsPosterOf l.posts) (passes_in l.passes);
  posters : All (IsPosterOf l.posts) l.posters.items;
}

abbrev pub decreases-loop-pass : goal.decreases-loop-pass
decreases-loop-pass l = vec_len l.passes.passes
