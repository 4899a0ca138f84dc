use Rattle.flow_gate.proofs.row.fill.Given as goal
use Rattle.flow_gate.specs.Line.{live}
use Rattle.std.specs.Map.{values_of}
use Rattle.std.specs.Prelude.{take, ◌≡◌}

-- the flows of the stands so far
abbrev pub invariant-loop-stand : goal.invariant-loop-stand
invariant-loop-stand l = l.row.items ≡ values_of (live (take l.stand-index l.stands))
