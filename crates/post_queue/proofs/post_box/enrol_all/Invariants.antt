use Rattle.std.proofs.Common.{◌≡◌, ◌≤◌, true, All, vec_len, vec_capacity}
use Rattle.crossbeam_queue.specs.SegTies.{IsSegPassOf}
use Rattle.post_queue.specs.Pass.{view}
use Rattle.post_queue.specs.Steps.{runner, poster}
use Rattle.post_queue.specs.Clauses.{AreInPlace}
use Rattle.post_queue.proofs.post_box.enrol_all.Given as goal

abbrev pub invariant-loop-number : goal.invariant-loop-number
invariant-loop-number l = record {
  first : IsSegPassOf l.queue l.first × (view l.first ≡ record runner { count = l.number });
  len : vec_len l.list ≡ l.number;
  room : l.posters ≤ vec_capacity l.list;
  each : All (λ p. IsSegPassOf l.queue p.pass × (view p.pass ≡ poster p.poster)) l.list.items;
  places : AreInPlace l.list.items;
}
