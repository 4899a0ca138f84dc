-- By the passage.
use Rattle.wire_run.proofs.Staging.{note_passes, row_passes}
use Rattle.wire_run.proofs.play.pass_row.Goals as goal

pub returns-in-One : goal.returns-in-One
returns-in-One c = note_passes _ _ c.args.passage c.in-One.note c.pass.result _ _ c.in-One.is c.pass.ensures

pub returns-in_default : goal.returns-in_default
returns-in_default c = row_passes _ _ c.args.passage _ c.in_default.not-One
