use Rattle.std.proofs.Common.{◌≡◌, ◌+◌, ◌≤◌, ◌++◌, true, length, vec_capacity}
use Rattle.crossbeam_queue.specs.SegTies.{IsSegPassOf}
use Rattle.post_queue.specs.Pass.{view}
use Rattle.post_queue.specs.Rule.{made_by_ended}
use Rattle.post_queue.proofs.close.take_all.Given as goal

abbrev pub invariant-loop : goal.invariant-loop
invariant-loop g l = record {
  pass : IsSegPassOf l.queue l.runner × ((view l.runner).runs ≡ true);
  ran : (view l.runner).ran ≡ (view l.fn.runner).ran ++ l.rest.items;
  known : ((view l.runner).known ≡ (view l.fn.runner).known) × ((view l.runner).count ≡ (view l.fn.runner).count);
  room : made_by_ended (view l.fn.runner).known ≤ length (view l.fn.runner).ran + vec_capacity l.rest;
}
