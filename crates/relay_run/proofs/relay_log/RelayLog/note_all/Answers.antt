-- Write buffers and pauses are taken up.
use Rattle.relay_run.proofs.Taking.{both_logged}
use Rattle.relay_run.proofs.relay_log.RelayLog.note_all.Goals as goal

pub returns : goal.returns
returns c = both_logged c.args.self.now c.args.notes.now c.note_all.new.self c.note_all-2.new.self c.note_all-2.result c.in_ok-note_all.ensures c.note_all-2.ensures
