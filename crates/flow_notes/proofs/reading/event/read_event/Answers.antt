-- The event of a line is read, and no other.
use Rattle.flow_notes.proofs.EventLines.{event_some, event_only, event_none}
use Rattle.flow_notes.proofs.reading.event.read_event.Goals as goal

pub returns-clause-some : goal.returns-clause-some
returns-clause-some c = event_some c.args.names.now c.args.line.now c.args.plain c.session_line.result c.session_line.ensures.spelled

pub returns-clause-only : goal.returns-clause-only
returns-clause-only c = event_only c.args.names.now c.known.ensures c.args.line.now c.args.plain c.session_line.result c.session_line.ensures.value

pub returns-clause-none : goal.returns-clause-none
returns-clause-none c = event_none c.args.names.now c.known.ensures c.args.line.now c.args.plain c.session_line.result c.session_line.ensures.value
