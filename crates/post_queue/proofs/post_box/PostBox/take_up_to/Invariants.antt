use Rattle.std.proofs.Common.{◌≡◌, ◌+◌, ◌<◌, ◌≤◌, ◌++◌, [], true, All, vec_len, vec_capacity}
use Rattle.crossbeam_queue.specs.SegTies.{IsSegPassOf}
use Rattle.post_queue.specs.Pass.{view}
use Rattle.post_queue.specs.Posts.{AreNumbered, IsAllowed}
use Rattle.post_queue.proofs.post_box.PostBox.take_up_to.Given as goal

abbrev pub invariant-loop : goal.invariant-loop
invariant-loop g l = record {
  pass : IsSegPassOf l.self.queue l.pass × ((view l.pass).runs ≡ true) × ((view l.pass).known ≡ []) × ((view l.pass).count ≡ (view l.fn.pass).count);
  len : vec_len l.taken ≡ l.counter;
  room : 64 ≤ vec_capacity l.taken;
  ran : (view l.pass).ran ≡ (view l.fn.pass).ran ++ l.taken.items;
  pops : (view l.pass).pops ≡ (view l.fn.pass).pops + l.counter;
  drains : (view l.pass).drains ≡ (view l.fn.pass).drains;
  in_order : 0 < l.counter → AreNumbered (view l.pass).ran;
  allowed : All IsAllowed l.taken.items;
}
