-- A line is a plain event, or none that may follow.
use Rattle.session_lines.proofs.Readings.{IsOnly, IsRead, an_event, event_refused, followed_read, no_event}
use Rattle.session_lines.proofs.plain.read_plain.Goals as goal

pub returns-in_default : goal.returns-in_default
returns-in_default c = event_refused _ _ _ (no_event _ _ c.in_default.is c.in_ok-event.ensures.none)

pub returns-in-Plain : goal.returns-in-Plain
returns-in-Plain c = followed_read _ _ _ _ c.in-Plain.event _
    (an_event _ _ _ (IsRead c.args.names.now c.args.line.now) c.in-Some.is c.in-Plain.is c.in_ok-event.ensures.some)
    (an_event _ _ _ (IsOnly c.args.names.now c.args.line.now) c.in-Some.is c.in-Plain.is c.in_ok-event.ensures.only)
    c.follow.ensures
