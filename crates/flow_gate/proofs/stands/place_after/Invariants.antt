use Rattle.flow_gate.proofs.stands.place_after.Given as goal
use Rattle.flow_gate.specs.Line.{live}
use Rattle.std.specs.Prelude.{length, take, ◌+◌, ◌≡◌}

-- those passed and those still to pass are n
abbrev pub invariant-loop-stand : goal.invariant-loop-stand
invariant-loop-stand l = l.left + length (live (take l.stand-index l.stand-items)) ≡ l.n
