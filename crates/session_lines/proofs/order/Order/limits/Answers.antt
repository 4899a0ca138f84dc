-- The limits are the second line.
use Rattle.session_lines.proofs.Readings.{limits_read, some_limits}
use Rattle.session_lines.proofs.order.Order.limits.Goals as goal

pub returns : goal.returns
returns c = limits_read c.args.self.now _ c.args.format c.in-Some.limits c.new.result c.requires (some_limits c.args.line.now c.args.format c.in-Some.limits _ c.in-Some.is c.in_ok-limits.ensures.some) c.new.ensures
