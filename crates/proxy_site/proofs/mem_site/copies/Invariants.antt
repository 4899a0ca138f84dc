use Rattle.proxy_site.proofs.mem_site.copies.Given as goal
use Rattle.std.proofs.Common.{length, ◌++◌, ◌≡◌}

abbrev pub invariant-loop-answer : goal.invariant-loop-answer
invariant-loop-answer l = record { told : l.answers ≡ l.made.items ++ l.rest }

abbrev pub decreases-loop-answer : goal.decreases-loop-answer
decreases-loop-answer l = length l.rest
