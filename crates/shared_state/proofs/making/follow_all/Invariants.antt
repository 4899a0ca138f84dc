use Rattle.std.proofs.Common.{◌≡◌, ◌≤◌, All, vec_len, vec_capacity}
use Rattle.std.specs.Arc.{arc_value}
use Rattle.shared_state.specs.Following.{IsNewFollower}
use Rattle.shared_state.specs.States.{published, counts, IsSame}
use Rattle.shared_state.proofs.making.follow_all.Given as goal

abbrev pub invariant-loop : goal.invariant-loop
invariant-loop l = record {
  len : vec_len l.list ≡ l.counter;
  room : l.followers ≤ vec_capacity l.list;
  each : All (IsNewFollower (arc_value l.fn.publisher.board)) l.list.items;
  kept : (published l.publisher ≡ published l.fn.publisher) × (l.publisher.last ≡ l.fn.publisher.last) × (counts l.publisher ≡ counts l.fn.publisher);
  same : IsSame l.fn.publisher l.publisher;
}
