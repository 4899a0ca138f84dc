-- By what the line was read as.
use Rattle.std.proofs.Common.{refl}
use Rattle.relay_run.proofs.Playing.{event_line_played, event_taken, header_line_played, limits_refused, line_refused, read_as}
use Rattle.relay_run.proofs.play.RelayPlayPlayer.line.Goals as goal

pub event-requires : goal.event-requires
event-requires c = event_taken c.args.self.now _ c.args.line.now _ (read_as _ _ _ _ _ c.in-Event.is c.in_ok-read.ensures) refl refl c.requires

pub returns-in-Header : goal.returns-in-Header
returns-in-Header c = header_line_played c.args.self.now c.args.line.now c.read.new.self _ _ _ (read_as _ _ _ _ _ c.in-Header.is c.in_ok-read.ensures) refl refl refl refl

pub returns-in-Event : goal.returns-in-Event
returns-in-Event c = event_line_played c.args.self.now _ c.args.line.now c.in-Event.event _ c.event.new.self _ c.event.result (read_as _ _ _ _ _ c.in-Event.is c.in_ok-read.ensures) refl refl c.event.ensures

pub returns-in-Limits : goal.returns-in-Limits
returns-in-Limits c = limits_refused c.args.self.now c.args.line.now c.read.new.self _ _ _ _ (read_as _ _ _ _ _ c.in-Limits.is c.in_ok-read.ensures) refl

pub returns-in-Refused : goal.returns-in-Refused
returns-in-Refused c = line_refused c.args.self.now c.args.line.now c.read.new.self _ _ _ (read_as _ _ _ _ _ c.in-Refused.is c.in_ok-read.ensures) refl
