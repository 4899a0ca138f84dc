use Rattle.std.proofs.Common.{sym}
use Rattle.wire_windows.proofs.Walking.{pass_all, pass_first, pass_next}
use Rattle.wire_windows.proofs.by_exchange.shifts.all_may_move.Goals as goal
use Rattle.wire_windows.specs.Shifts.{may_move}

pub loop-x-init : goal.loop-x-init
loop-x-init c = pass_first (may_move c.args.to) c.args.map.now (sym c.if-not-may_move_at.ensures)

pub loop-x-preserved : goal.loop-x-preserved
loop-x-preserved c = pass_next (may_move c.args.to) c.args.map.now c.loop-x.after c.in-Some.x c.loop-x.invariant c.in-Some.ensures.least (sym c.if-not-may_move_at-2.ensures)

pub returns-clause-all : goal.returns-clause-all
returns-clause-all c = λ _. pass_all (may_move c.args.to) c.args.map.now c.loop-x.after c.loop-x.invariant c.in_default.ensures.least

pub returns-then-not-may_move_at-clause-some : goal.returns-then-not-may_move_at-clause-some
returns-then-not-may_move_at-clause-some c = λ _. (0, sym c.if-not-may_move_at.ensures)

pub returns-then-not-may_move_at-2-clause-some : goal.returns-then-not-may_move_at-2-clause-some
returns-then-not-may_move_at-2-clause-some c = λ _. (c.in-Some.x, sym c.if-not-may_move_at-2.ensures)
