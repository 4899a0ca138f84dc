-- Point after point is put.
use Rattle.tape_plot.proofs.Pathing.{points_done, points_next}
use Rattle.tape_plot.proofs.draw.line.put_points.Goals as goal

pub loop-point-preserved : goal.loop-point-preserved
loop-point-preserved c = record { same = points_next c.args.scene.now c.args.into.now c.loop-point.into _ c.args.points.now c.loop-point.rest.now _ _ c.in-Some.ensures.cases.0 c.in_ok-put_point.ensures c.loop-point.invariant.same }

pub returns : goal.returns
returns c = points_done c.args.scene.now c.args.into.now c.loop-point.into c.args.points.now c.loop-point.rest.now c.in_default.ensures.cases c.loop-point.invariant.same
