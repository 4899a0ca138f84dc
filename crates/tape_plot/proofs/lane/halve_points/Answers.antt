-- Point after point is put.
use Rattle.tape_plot.proofs.Points.{halves_done, halves_next}
use Rattle.tape_plot.proofs.lane.halve_points.Goals as goal

pub loop-point-preserved : goal.loop-point-preserved
loop-point-preserved c = record {
  same = halves_next c.args.points.now c.loop-point.made.items _ c.loop-point.rest.now _ _ _ c.in-Some.ensures.cases.0 c.halved.ensures c.in_ok-put_point.ensures c.loop-point.invariant.same;
}

pub returns : goal.returns
returns c = halves_done c.args.points.now _ c.loop-point.rest.now c.in_default.ensures.cases c.loop-point.invariant.same
