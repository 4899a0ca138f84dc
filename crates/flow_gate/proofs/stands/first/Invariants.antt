use Rattle.flow_gate.proofs.stands.first.Given as goal
use Rattle.flow_gate.specs.Line.{live}
use Rattle.std.specs.Prelude.{[], take, ◌≡◌}

-- no flow so far
abbrev pub invariant-loop-stand : goal.invariant-loop-stand
invariant-loop-stand l = live (take l.stand-index l.stands) ≡ []
