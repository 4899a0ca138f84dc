use Rattle.std.proofs.Common.{arith, refl, sym}
use Rattle.wire_windows.proofs.Keeping.{kept_undue, whole_at}
use Rattle.wire_windows.proofs.recv_windows.RecvWindows.ended.Goals as goal
use Rattle.wire_windows.specs.Kept.{windows_of}
use Rattle.wire_windows.specs.RecvWindows.{over}

pub invariant_of-self : goal.invariant_of-self
invariant_of-self c = kept_undue c.self.inside c.self.invariant c.args.x c.in-Some.stream (sym c.in-Some.ensures) (over c.in-Some.stream) c.set.new.self c.remove.new.self c.set.ensures
    (whole_at (windows_of c.self.inside) c.self.invariant.sound c.args.x c.in-Some.stream (sym c.in-Some.ensures)) refl refl
    (record { items = c.remove.ensures.members; len = omega (arith, c.remove.ensures.len) }) c.remove.ensures.room

pub returns-clause-sound : goal.returns-clause-sound
returns-clause-sound c = (invariant_of-self c).sound
