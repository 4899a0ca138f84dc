use Rattle.std.proofs.Common.{◌≤◌, vec_len, vec_capacity}
use Rattle.thread_bench.proofs.plain_queue.take_list.Given as goal

abbrev pub invariant-loop : goal.invariant-loop
invariant-loop g l = record {
  len : vec_len l.posts ≤ l.counter;
  room : 64 ≤ vec_capacity l.posts;
}
