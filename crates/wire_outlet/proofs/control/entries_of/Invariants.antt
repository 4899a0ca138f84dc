use Rattle.std.proofs.Common.{take, ◌≡◌}
use Rattle.wire_outlet.specs.Control.{entries_of}
use Rattle.wire_outlet.proofs.control.entries_of.Given as goal

-- the entries of the settings so far
abbrev pub invariant-loop-number : goal.invariant-loop-number
invariant-loop-number l = l.entries ≡ entries_of (take l.number-index l.settings)
