-- The words of a pause stand in their order.
use Rattle.tape_plot.proofs.Lining.{paused_ends}
use Rattle.tape_plot.proofs.report.put_paused.Goals as goal

pub returns : goal.returns
returns c = paused_ends _ c.args.text.now _ _ _ _ _ _ _ _ _ _ c.push_all.result c.new-line.ensures.text c.put_until.ensures.text c.put.ensures.text c.put_number.ensures.text c.put-2.ensures.text
    c.put_buffer.ensures.text c.put_flow.ensures.text c.put-3.ensures.text c.as_slice.ensures c.push_all.ensures.ok
