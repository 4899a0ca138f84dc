-- An event that may follow is read.
use Rattle.session_lines.proofs.WireReading.{followed, only_read, wire_event_read}
use Rattle.session_lines.proofs.wire_lines.WireLines.event.Goals as goal

pub returns-then-branch : goal.returns-then-branch
returns-then-branch c = wire_event_read c.args.self.now c.args.line.now c.in-Some.event c.follow.new.self c.requires
    (only_read c.args.self.now.names c.args.line.now _ c.in-Some.event c.in-Some.is c.in_ok-event.ensures.some c.in_ok-event.ensures.only)
    (followed _ _ _ _ c.if-branch.true c.in_ok-follow.ensures)
