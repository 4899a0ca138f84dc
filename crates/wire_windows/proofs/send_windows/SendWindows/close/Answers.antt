use Rattle.wire_windows.proofs.Sending.{sound_gone}
use Rattle.wire_windows.proofs.send_windows.SendWindows.close.Goals as goal

pub invariant_of-self : goal.invariant_of-self
invariant_of-self c = sound_gone (record { conn = c.self.inside.conn; initial = c.self.inside.initial; payload = c.self.inside.payload; streams = c.self.inside.streams }) c.self.invariant c.self.inside.conn c.args.x c.remove.new.self c.remove.ensures

pub returns-clause-sound : goal.returns-clause-sound
returns-clause-sound c = invariant_of-self c
