use Rattle.mem_wire_site.proofs.play.copies.Given as goal
use Rattle.std.proofs.Common.{length, ◌++◌, ◌≡◌}

abbrev pub invariant-loop-answer : goal.invariant-loop-answer
invariant-loop-answer l = record { told : l.answers ≡ l.made.items ++ l.rest }

abbrev pub decreases-loop-answer : goal.decreases-loop-answer
decreases-loop-answer l = length l.rest
