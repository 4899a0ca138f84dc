-- The header is the first line.
use Rattle.session_lines.proofs.Readings.{header_read}
use Rattle.session_lines.proofs.order.Order.header.Goals as goal

pub returns : goal.returns
returns c = header_read c.args.self.now _ c.in-Some.format c.requires c.in-Some.ensures.some
