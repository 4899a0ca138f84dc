use Rattle.std.proofs.Common.{◌≡◌}
use Rattle.shared_state.specs.Entries.{StartsWith}
use Rattle.shared_state.specs.Following.{seen, IsSameFollower}
use Rattle.shared_state.proofs.follower.Follower.renew.Given as goal

abbrev pub invariant-loop : goal.invariant-loop
invariant-loop g l = record {
  seen : StartsWith (seen l.self) (seen l.fn.self);
  kept : l.self.kept ≡ l.fn.self.kept;
  same : IsSameFollower l.fn.self l.self;
}
