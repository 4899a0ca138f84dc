use Rattle.wire_windows.proofs.Walking.{changed_all, changed_first, changed_next}
use Rattle.wire_windows.proofs.by_exchange.shifts.move_all.Goals as goal
use Rattle.wire_windows.specs.Shifts.{moved_by}

pub loop-x-init : goal.loop-x-init
loop-x-init c = changed_first (moved_by c.args.to) c.args.map.now c.move_at.new.map c.move_at.ensures

pub loop-x-preserved : goal.loop-x-preserved
loop-x-preserved c = changed_next (moved_by c.args.to) c.args.map.now c.loop-x.map c.move_at-in-Some.new.map c.loop-x.after c.in-Some.x c.loop-x.invariant c.in-Some.ensures.found.0 c.in-Some.ensures.least c.move_at-in-Some.ensures

pub returns : goal.returns
returns c = changed_all (moved_by c.args.to) c.args.map.now c.loop-x.map c.loop-x.after c.loop-x.invariant c.in_default.ensures.least
