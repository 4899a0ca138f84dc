use Rattle.std.specs.Prelude.{◌-◌, ◌^◌}
use Rattle.wire_windows.proofs.Walking.{Changed}
use Rattle.wire_windows.proofs.by_exchange.shifts.move_all.Given as goal
use Rattle.wire_windows.specs.Shifts.{moved_by}

-- those up to the last one went over
abbrev pub invariant-loop-x : goal.invariant-loop-x
invariant-loop-x l = Changed (moved_by l.to) l.after l.fn.map l.map

abbrev pub decreases-loop-x : goal.decreases-loop-x
decreases-loop-x l = 2 ^ 64 - l.after
