-- Behind the last point, or in it.
use Rattle.tape_plot.proofs.Points.{put_apart, put_joined}
use Rattle.tape_plot.proofs.lane.put_point.Goals as goal

pub returns-then-last-point : goal.returns-then-last-point
returns-then-last-point c =
    put_joined c.args.point c.in-Some.last c.joined.result c.args.points.now.items c.pop.new.self.items _ c.in-Some.ensures.items c.if-last-point.true c.joined.ensures c.in_ok-push-2.ensures.items

pub returns : goal.returns
returns c =
    put_apart c.args.point c.in-Some.last c.args.points.now.items c.pop.new.self.items c.push-2.new.self.items _ c.in-Some.ensures.items c.if-last-point.false c.in_ok-push-3.ensures.items c.in_ok-push-4.ensures.items
