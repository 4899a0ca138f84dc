use Rattle.h2_windows.specs.SendWindow.{Sending}
use Rattle.std.proofs.Common.{ap, sym, ◌∙◌}
use Rattle.wire_windows.proofs.Sending.{goes_by, sound_put, spends_nothing}
use Rattle.wire_windows.proofs.send_windows.SendWindows.spend.Goals as goal
use Rattle.wire_windows.specs.SendWindows.{SendWindows}

pub invariant_of-self : goal.invariant_of-self
invariant_of-self c =
    let w : SendWindows = record { conn = c.self.inside.conn; initial = c.self.inside.initial; payload = c.self.inside.payload; streams = c.self.inside.streams } in
    sound_put w c.self.invariant c.spend-then-n-gt0.new.self c.args.x c.set.new.self c.spend.new.self (ap (λ (s : Sending). s.initial) c.spend.ensures ∙ goes_by w c.self.invariant c.args.x c.in-Some.window (sym c.in-Some.ensures)) c.set.ensures

pub returns-then-n-gt0-clause-sound : goal.returns-then-n-gt0-clause-sound
returns-then-n-gt0-clause-sound c = invariant_of-self c

pub returns-else-n-gt0-clause-spends : goal.returns-else-n-gt0-clause-spends
returns-else-n-gt0-clause-spends c = spends_nothing c.args.self.now c.args.x c.args.n c.if-n-gt0.false
