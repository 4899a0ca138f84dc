-- A row leaves each buffer as it was.
use Rattle.wire_summary.proofs.Going.{note_goes, row_goes}
use Rattle.wire_summary.proofs.levels.Levels.passage.Goals as goal

pub returns-in-One : goal.returns-in-One
returns-in-One c = note_goes c.args.self.now c.note.new.self c.args.passage c.in-One.note c.note.result c.in-One.is c.note.ensures

pub returns-in_default : goal.returns-in_default
returns-in_default c = row_goes c.args.self.now c.args.passage c.in_default.not-One
