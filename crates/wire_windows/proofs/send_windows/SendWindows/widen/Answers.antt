use Rattle.h2_windows.specs.SendWindow.{Sending}
use Rattle.std.proofs.Common.{ap, sym, ◌∙◌}
use Rattle.wire_windows.proofs.Sending.{goes_by, sound_put}
use Rattle.wire_windows.proofs.send_windows.SendWindows.widen.Goals as goal
use Rattle.wire_windows.specs.SendWindows.{SendWindows}

pub invariant_of-self : goal.invariant_of-self
invariant_of-self c =
    let w : SendWindows = record { conn = c.self.inside.conn; initial = c.self.inside.initial; payload = c.self.inside.payload; streams = c.self.inside.streams } in
    sound_put w c.self.invariant c.self.inside.conn c.args.x c.set.new.self c.widen.new.self (ap (λ (s : Sending). s.initial) c.in_ok-widen.ensures.ok ∙ goes_by w c.self.invariant c.args.x c.in-Some.window (sym c.in-Some.ensures)) c.set.ensures

pub returns-clause-sound : goal.returns-clause-sound
returns-clause-sound c = invariant_of-self c
