use Rattle.flow_gate.proofs.stands.count.Given as goal
use Rattle.flow_gate.specs.Line.{live}
use Rattle.std.specs.Prelude.{length, take, ◌≡◌}

-- the flows so far
abbrev pub invariant-loop-stand : goal.invariant-loop-stand
invariant-loop-stand l = l.flows ≡ length (live (take l.stand-index l.stands))
