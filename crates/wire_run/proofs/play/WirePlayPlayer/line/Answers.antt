-- By what the line was read as.
use Rattle.std.proofs.Common.{refl}
use Rattle.wire_run.proofs.Playing.{event_line_played, event_range, event_sound, header_played, none_played, read_as}
use Rattle.wire_run.proofs.play.WirePlayPlayer.line.Goals as goal

pub event-requires-clause-sound : goal.event-requires-clause-sound
event-requires-clause-sound c = event_sound c.args.self.now c.requires

pub event-requires-clause-event : goal.event-requires-clause-event
event-requires-clause-event c = event_range c.args.self.now c.args.line.now c.in-Event.event _ (read_as _ _ _ _ _ c.in-Event.is c.in_ok-read.ensures) c.requires

pub returns-in-Header : goal.returns-in-Header
returns-in-Header c = header_played c.args.self.now _ c.args.line.now _ _ (read_as _ _ _ _ _ c.in-Header.is c.in_ok-read.ensures) refl refl refl refl

pub returns-in-Limits : goal.returns-in-Limits
returns-in-Limits c = none_played c.args.self.now c.args.line.now _ _ _ _ _ c.in-Limits.is c.in_ok-read.ensures refl

pub returns-in-Event : goal.returns-in-Event
returns-in-Event c = event_line_played c.args.self.now _ c.args.line.now c.in-Event.event _ c.event.new.self _ c.event.result
    (read_as _ _ _ _ _ c.in-Event.is c.in_ok-read.ensures) refl refl refl c.event.ensures
