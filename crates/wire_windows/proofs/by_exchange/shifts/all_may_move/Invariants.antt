use Rattle.std.specs.Prelude.{◌-◌, ◌^◌}
use Rattle.wire_windows.proofs.Walking.{Pass}
use Rattle.wire_windows.proofs.by_exchange.shifts.all_may_move.Given as goal
use Rattle.wire_windows.specs.Shifts.{may_move}

-- those up to the last one may
abbrev pub invariant-loop-x : goal.invariant-loop-x
invariant-loop-x l = Pass (may_move l.to) l.after l.map

abbrev pub decreases-loop-x : goal.decreases-loop-x
decreases-loop-x l = 2 ^ 64 - l.after
