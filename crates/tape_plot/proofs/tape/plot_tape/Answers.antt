-- The picture is written, or there is none.
use Rattle.tape_plot.proofs.Picturing.{draws_refused, draws_written, ends_refused, ends_written, reads_drawn, writes_same}
use Rattle.tape_plot.proofs.tape.plot_tape.Goals as goal

pub returns-in-Ok-clause-reads : goal.returns-in-Ok-clause-reads
returns-in-Ok-clause-reads g c = reads_drawn _ _ _ _ _ c.args.choice.now c.in-Ok.text _ c.in-Ok.ensures.reads (writes_same _ _ _ _ c.in-Ok.text _ c.as_slice.ensures c.write_picture.ensures.writes)

pub returns-in-Ok-clause-ends : goal.returns-in-Ok-clause-ends
returns-in-Ok-clause-ends g c = ends_written _ _ _ _ c.in-Ok.text _ (writes_same _ _ _ _ c.in-Ok.text _ c.as_slice.ensures c.write_picture.ensures.writes)

pub returns-in-Ok-clause-draws : goal.returns-in-Ok-clause-draws
returns-in-Ok-clause-draws g c = draws_written _ _ _ _ _ c.args.choice.now c.in-Ok.text _ c.in-Ok.ensures.reads (writes_same _ _ _ _ c.in-Ok.text _ c.as_slice.ensures c.write_picture.ensures.writes)

pub returns-in-Err-clause-ends : goal.returns-in-Err-clause-ends
returns-in-Err-clause-ends g c = ends_refused _ _ _ c.in-Err.outcome c.in-Err.ensures.refused

pub returns-in-Err-clause-draws : goal.returns-in-Err-clause-draws
returns-in-Err-clause-draws g c = draws_refused _ _ _ _ _ c.args.choice.now c.in-Err.outcome c.in-Err.ensures.refused
