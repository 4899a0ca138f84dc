-- By what the line was read as.
use Rattle.std.proofs.Common.{refl}
use Rattle.replay_run.proofs.Playing.{event_line_played, header_line_played, limits_line_played, limits_taken, line_refused, read_as}
use Rattle.replay_run.proofs.play.PlayPlayer.line.Goals as goal

pub begin-requires : goal.begin-requires
begin-requires c = limits_taken c.args.self.now c.args.line.now c.read_session_line.new.state _
    (read_as _ _ _ _ _ c.in-Limits.is c.in_ok-read_session_line.ensures) c.requires

pub returns-in-Header : goal.returns-in-Header
returns-in-Header c = header_line_played c.args.self.now c.args.line.now c.read_session_line.new.state _ _ _
    (read_as _ _ _ _ _ c.in-Header.is c.in_ok-read_session_line.ensures) refl refl refl refl

pub returns-in-Refused : goal.returns-in-Refused
returns-in-Refused c = line_refused c.args.self.now c.args.line.now _ _ _ c.read_session_line.new.state
    (read_as _ _ _ _ _ c.in-Refused.is c.in_ok-read_session_line.ensures) refl

pub returns-in-Event : goal.returns-in-Event
returns-in-Event c = event_line_played c.args.self.now _ c.args.line.now c.in-Event.event _ c.event.new.self _ c.event.result
    (read_as _ _ _ _ _ c.in-Event.is c.in_ok-read_session_line.ensures) refl refl c.event.ensures

pub returns-in_ok-begin-in-Limits : goal.returns-in_ok-begin-in-Limits
returns-in_ok-begin-in-Limits c = limits_line_played c.args.self.now c.args.line.now c.read_session_line.new.state _ _ _ _
    (read_as _ _ _ _ _ c.in-Limits.is c.in_ok-read_session_line.ensures) c.in_ok-begin-in-Limits.ensures.order c.in_ok-begin-in-Limits.ensures.rests c.in_ok-begin-in-Limits.ensures.logs refl
