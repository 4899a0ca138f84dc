-- Row after row.
use Rattle.tape_plot.proofs.Drawing.{grows_more}
use Rattle.tape_plot.proofs.draw.rows.Rows.put_events.Goals as goal

pub returns : goal.returns
returns c = grows_more _ _ _ (grows_more _ _ _ c.in_ok-put_marks.ensures c.in_ok-put_marks-2.ensures) c.in_ok-put_marks-3.ensures
