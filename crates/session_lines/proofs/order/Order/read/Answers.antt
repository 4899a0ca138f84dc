-- The other lines are events.
use Rattle.session_lines.proofs.Readings.{event_read}
use Rattle.session_lines.proofs.order.Order.read.Goals as goal

pub returns-in-Plays : goal.returns-in-Plays
returns-in-Plays c = event_read c.args.self.now _ _ _ _ c.in-Plays.is c.read_plain.ensures
