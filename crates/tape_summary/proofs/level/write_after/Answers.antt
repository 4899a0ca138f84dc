-- By the note.
use Rattle.tape_summary.proofs.Levels.{frame_ends, out_ends, unwritten_goes}
use Rattle.tape_summary.proofs.level.write_after.Goals as goal

pub returns-in-Frame : goal.returns-in-Frame
returns-in-Frame c = frame_ends c.args.write _ _ _ _ _ c.from.result c.on_first.result c.rise.result c.in-Frame.is c.from.ensures c.on_first.ensures c.rise.ensures

pub returns-in-Out : goal.returns-in-Out
returns-in-Out c = out_ends c.args.write c.fall.result _ _ _ c.from-in-Out.result c.on_first-in-Out.result c.in-Out.is c.from-in-Out.ensures c.on_first-in-Out.ensures c.fall.ensures

pub returns-in_default : goal.returns-in_default
returns-in_default c = unwritten_goes c.args.write c.args.note.now c.in_default.not-Frame c.in_default.not-Out
