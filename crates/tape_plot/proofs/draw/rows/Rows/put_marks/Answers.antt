-- There is no row without marks.
use Rattle.tape_plot.proofs.Drawing.{grows_self}
use Rattle.tape_plot.proofs.draw.rows.Rows.put_marks.Goals as goal

pub returns-then-is_empty : goal.returns-then-is_empty
returns-then-is_empty c = grows_self _
