use Rattle.h2_windows.specs.RecvWindow.{Receiving}
use Rattle.std.proofs.Common.{ap, arith, false, ◌∙◌}
use Rattle.std.specs.FinMap.{get, insert}
use Rattle.wire_windows.proofs.Keeping.{kept_begun, none_is}
use Rattle.wire_windows.proofs.recv_windows.RecvWindows.begin.Goals as goal
use Rattle.wire_windows.specs.declared.recv_stream.RecvStream.{RecvStream}

pub invariant_of-self-2 : goal.invariant_of-self-2
invariant_of-self-2 c = kept_begun c.self.inside c.self.invariant c.args.x c.put.new.self c.reserve.new.self
    (none_is (get c.self.inside.streams c.args.x) (rw (← c.self.view_is) at c.requires))
    (c.in_ok-put.ensures.ok ∙ ap (λ (w : Receiving). let s : RecvStream = record { window = w; ended = false } in insert c.self.inside.streams c.args.x s) c.new.ensures)
    c.in_ok-reserve.ensures.items (omega (arith, c.len.ensures.len, c.in_ok-reserve.ensures.room))

pub returns-clause-sound : goal.returns-clause-sound
returns-clause-sound c = (invariant_of-self-2 c).sound
