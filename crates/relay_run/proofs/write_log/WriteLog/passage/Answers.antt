-- A row leaves each write buffer as it was.
use Rattle.relay_run.proofs.Taking.{note_write, row_write}
use Rattle.relay_run.proofs.write_log.WriteLog.passage.Goals as goal

pub returns-in-One : goal.returns-in-One
returns-in-One c = note_write c.args.self.now c.note.new.self c.args.passage c.in-One.note c.note.result c.in-One.is c.note.ensures

pub returns-in_default : goal.returns-in_default
returns-in_default c = row_write c.args.self.now c.args.passage c.in_default.not-One
