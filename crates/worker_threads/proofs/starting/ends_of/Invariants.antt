use Rattle.std.proofs.Common.{length, map, ◌+◌, ◌++◌, ◌≡◌, ◌≤◌}
use Rattle.std.specs.Prelude.{vec_capacity}
use Rattle.worker_threads.specs.Starting.{end_of}
use Rattle.worker_threads.proofs.starting.ends_of.Given as goal

abbrev pub invariant-loop-worker : goal.invariant-loop-worker
invariant-loop-worker g l = record {
  told : map end_of l.fn.workers ≡ l.ends.items ++ map end_of l.rest;
  room : length l.ends.items + length l.rest ≤ vec_capacity l.ends;
}

abbrev pub decreases-loop-worker : goal.decreases-loop-worker
decreases-loop-worker g l = length l.rest
