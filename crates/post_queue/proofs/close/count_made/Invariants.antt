use Rattle.std.proofs.Common.{◌≡◌, ◌+◌, length}
use Rattle.post_queue.proofs.Ended.{made_by_all}
use Rattle.post_queue.proofs.close.count_made.Given as goal

-- what was counted and what is left are all
abbrev pub invariant-loop-rest : goal.invariant-loop-rest
invariant-loop-rest l = l.made + made_by_all l.rest ≡ made_by_all l.passes

abbrev pub decreases-loop-rest : goal.decreases-loop-rest
decreases-loop-rest l = length l.rest
