use Rattle.h2_windows.specs.SendWindow.{Sending}
use Rattle.std.proofs.Common.{ap}
use Rattle.wire_windows.proofs.Sending.{sound_put}
use Rattle.wire_windows.proofs.send_windows.SendWindows.open.Goals as goal

pub invariant_of-self-2 : goal.invariant_of-self-2
invariant_of-self-2 c = sound_put (record { conn = c.self.inside.conn; initial = c.self.inside.initial; payload = c.self.inside.payload; streams = c.self.inside.streams }) c.self.invariant c.self.inside.conn c.args.x c.put.new.self c.new.result (ap (λ (s : Sending). s.initial) c.new.ensures) c.in_ok-put.ensures.ok

pub returns-clause-sound : goal.returns-clause-sound
returns-clause-sound c = invariant_of-self-2 c
