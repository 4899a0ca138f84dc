use Rattle.flow_gate.proofs.stands.split_first.Given as goal
use Rattle.flow_gate.specs.Line.{live}
use Rattle.std.specs.Prelude.{length, ◌≡◌}

-- only gaps were passed
abbrev pub invariant-loop-stand : goal.invariant-loop-stand
invariant-loop-stand l = live l.rest ≡ live l.stands

abbrev pub decreases-loop-stand : goal.decreases-loop-stand
decreases-loop-stand l = length l.rest
