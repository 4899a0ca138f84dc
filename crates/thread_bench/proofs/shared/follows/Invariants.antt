use Rattle.std.proofs.Common.{vec_len}
use Rattle.thread_bench.proofs.shared.follows.Given as goal

abbrev pub decreases-loop-follower : goal.decreases-loop-follower
decreases-loop-follower l = vec_len l.followers.list
