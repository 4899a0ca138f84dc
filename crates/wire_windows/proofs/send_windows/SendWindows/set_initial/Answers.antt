use Rattle.std.proofs.Common.{refl}
use Rattle.wire_windows.proofs.Sending.{goes_through}
use Rattle.wire_windows.proofs.send_windows.SendWindows.set_initial.Goals as goal
use Rattle.wire_windows.specs.SendWindows.{SendWindows}

pub returns-clause-ok : goal.returns-clause-ok
returns-clause-ok c =
    let w : SendWindows = record { conn = c.self.inside.conn; initial = c.self.inside.initial; payload = c.self.inside.payload; streams = c.self.inside.streams } in
    λ first later of. rw (← c.self.view_is) (goes_through w c.self.invariant c.args.greatest c.args.last c.requires.order c.requires.most (c.if-not-may_shift.ensures.all refl) c.shift.new.self c.shift.ensures c.greatest_then_last.ensures first later of)
