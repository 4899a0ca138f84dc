use Rattle.std.proofs.Common.{◌≡◌, true, All}
use Rattle.crossbeam_queue.specs.SegTies.{IsSegPassOf}
use Rattle.post_queue.specs.Pass.{view}
use Rattle.post_queue.proofs.Ended.{Ended}
use Rattle.post_queue.proofs.close.end_all.Given as goal

abbrev pub invariant-loop-poster : goal.invariant-loop-poster
invariant-loop-poster l = record {
  pass : IsSegPassOf l.queue l.runner × ((view l.runner).runs ≡ true) × ((view l.runner).ran ≡ (view l.fn.runner).ran) × ((view l.runner).count ≡ (view l.fn.runner).count);
  each : All (λ p. IsSegPassOf l.queue p.pass) l.passes.items;
  ended : Ended (view l.runner) l.fn.passes.items l.passes.items;
}

abbrev pub decreases-loop-poster : goal.decreases-loop-poster
decreases-loop-poster l = goal.left-loop-poster l
