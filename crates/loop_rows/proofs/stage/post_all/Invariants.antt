use Rattle.post_queue.specs.Clauses.{IsPosterOf}
use Rattle.loop_rows.proofs.stage.post_all.Given as goal

abbrev pub invariant-loop-job : goal.invariant-loop-job
invariant-loop-job g l = IsPosterOf l.posts l.poster
