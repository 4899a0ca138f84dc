-- The last lines of a session that was refused.
use Rattle.std.proofs.Common.{refl}
use Rattle.tape_plot.proofs.Lining.{length_ends, number_ends}
use Rattle.tape_plot.proofs.report.put_line.Goals as goal

pub returns-in_ok-put_behind-in-RefusedLine : goal.returns-in_ok-put_behind-in-RefusedLine
returns-in_ok-put_behind-in-RefusedLine c =
    number_ends c.args.text.now _ _ _ _ _ c.in-RefusedLine.number c.args.line c.push_all.result c.in-RefusedLine.is c.from.ensures refl refl c.in_ok-put_behind-in-RefusedLine.ensures.ok c.push_all.ensures.ok

pub returns-in-RefusedLength : goal.returns-in-RefusedLength
returns-in-RefusedLength c = length_ends c.args.text.now _ _ c.args.line c.push_all-in-RefusedLength.result c.in-RefusedLength.is refl c.push_all-in-RefusedLength.ensures.ok
